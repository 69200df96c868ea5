-- What a run promises by its status, and when each status comes. For src/run.rt.
use Rattle.std.specs.Prelude.{ℕ, ◌≡◌, ◌==◌, ◌⊎◌, ⊤, List, cond}
use Rattle.tail_book.specs.Plan.{IsLegalPlan}
use Rattle.tail_book.specs.Seen.{BookSeen}
use Rattle.tail_book.specs.Truth.{HasNoPlan, IsTrueOutcome}
use Rattle.tail_book.specs.declared.outcome.Outcome.{Outcome}
use Rattle.tail_book.specs.declared.outcome.Outcome.TheVariants.{Optimal, Infeasible, Between, Above}
use Rattle.tail_book.specs.Faults.{HasRisen}
use Rattle.tail_outside.specs.Outside.{PieceHasFailed, Takes}
use Rattle.tail_outside.specs.Shown.{FilesShown, SinkShown}
use Rattle.branch_tree.specs.declared.limit.Limit.{Limit}
use Rattle.branch_tree.specs.declared.limit.Limit.TheVariants.{Free, Nodes}
use Rattle.plan_report.specs.Report.{report}
use Rattle.run_frame.specs.Promise.{ElsePromise, Judges, PrintsFront, Refuses}
use Rattle.run_frame.specs.TableFiles.{AreGiven}
use Rattle.tailplan.specs.Answers.{AreRefused, HasTree, IsBookOf, IsCertified, IsTrueAnswer, OfTask, answer_text, cert_of}
use Rattle.tailplan.specs.Tasks.{TaskSeen, task_held}
use Rattle.tailplan.specs.Usage.{usage_line}
use Rattle.tailplan.specs.Words.{run_of}

-- the tables are a book, and the report of a plan was printed that is legal, has the printed cost, and is undercut by no legal plan;
-- a certificate that was asked for is one of this outcome
pub record PrintsLeastPlan (later : FilesShown) (before after : SinkShown) (task : TaskSeen) : Type 0 where
  pub book : BookSeen
  pub plan : List (List ℕ)
  pub cost : ℕ
  pub is : IsBookOf task book
  pub truth : IsTrueOutcome book (Optimal plan cost)
  pub certified : IsCertified later task book (Optimal plan cost)
  pub printed : Takes before after (report book (Optimal plan cost))

-- the tables are a book of which no plan is legal, and that was printed; a certificate that was asked for says so too
pub record PrintsInfeasible (later : FilesShown) (before after : SinkShown) (task : TaskSeen) : Type 0 where
  pub book : BookSeen
  pub is : IsBookOf task book
  pub truth : HasNoPlan book
  pub certified : IsCertified later task book Infeasible
  pub printed : Takes before after (report book Infeasible)

-- the outcome is a bound, with the best plan found or without
abbrev pub IsBound : Outcome → Type 0
IsBound (Optimal plan cost) = ⊥
IsBound Infeasible = ⊥
IsBound (Between plan low high nodes) = ⊤
IsBound (Above low nodes) = ⊤

-- the tables are a book, and the report of a bound was printed that is true, with which a tree within the limit ends, in the order
-- that was asked for: its nodes reach the limit, and the bound is the least that its open places leave; a certificate that was asked
-- for is one of this outcome
pub record PrintsBound (later : FilesShown) (before after : SinkShown) (task : TaskSeen) : Type 0 where
  pub book : BookSeen
  pub outcome : Outcome
  pub is : IsBookOf task book
  pub bound : IsBound outcome
  pub truth : IsTrueOutcome book outcome
  pub tree : HasTree book task.limit task.order outcome
  pub certified : IsCertified later task book outcome
  pub printed : Takes before after (report book outcome)

-- the output failed: a piece of what was printed did, and a front of the text of a true answer was printed
pub record OutputHasFailed (words : List (List ℕ)) (files later : FilesShown) (before after : SinkShown) : Type 0 where
  pub piece : PieceHasFailed before after
  pub front : PrintsFront (IsTrueAnswer words files later) answer_text before after

-- the certificate's file failed: the words name one, a write to the files did, and nothing was printed
pub record CertificateHasFailed (words : List (List ℕ)) (files later : FilesShown) (before after : SinkShown) : Type 0 where
  pub named : AreGiven (cert_of words)
  pub write : HasRisen files.write_faults later.write_faults
  pub silent : after ≡ before

-- what a run over these words and files promises by its status, where the files and the output were first so and then so: 0 a plan
-- of least cost, 1 that no plan is legal, 4 a bound at the limit, 6 that the output failed, or the certificate's file before anything
-- was printed, and else what every run promises
abbrev pub Promise : List (List ℕ) → FilesShown → FilesShown → SinkShown → SinkShown → ℕ → Type 0
Promise words files later before after status =
    cond (status == 0) (OfTask words files (PrintsLeastPlan later before after)) (
    cond (status == 1) (OfTask words files (PrintsInfeasible later before after)) (
    cond (status == 4) (OfTask words files (PrintsBound later before after)) (
    cond (status == 6) (OutputHasFailed words files later before after ⊎ CertificateHasFailed words files later before after) (
    ElsePromise (run_of words) (task_held files) AreRefused usage_line (IsTrueAnswer words files later) answer_text before after status))))

-- some plan is legal
abbrev pub HasPlan : BookSeen → Type 0
HasPlan book = (plan : List (List ℕ)) × IsLegalPlan book plan

-- a number limits the nodes
abbrev pub IsNumber : Limit → Type 0
IsNumber Free = ⊥
IsNumber (Nodes most) = ⊤

-- a book, and the limit under which it is planned
pub record Case : Type 0 where
  pub book : BookSeen
  pub limit : Limit

-- the task is this case
abbrev pub IsCaseOf : TaskSeen → Case → Type 0
IsCaseOf task case = IsBookOf task case.book × (task.limit ≡ case.limit)

-- the status says whether some plan is legal: 0 where one is, and 1 where none is; or it is 4, where a number limits the nodes
abbrev pub IsVerdict : Case → ℕ → Type 0
IsVerdict case status = ((status ≡ 0) × HasPlan case.book) ⊎ (((status ≡ 1) × HasNoPlan case.book) ⊎ ((status ≡ 4) × IsNumber case.limit))

-- tables that are refused end with status 3, unless a read or a write failed or memory was wanting
abbrev pub RefusesTables : List (List ℕ) → FilesShown → ℕ → Type 0
RefusesTables words files status = Refuses (run_of words) (task_held files) AreRefused status

-- of a book it is said whether some plan is legal, or a limit was reached, unless a read or a write failed or memory was wanting
abbrev pub JudgesBook : List (List ℕ) → FilesShown → ℕ → Type 0
JudgesBook words files status = Judges (run_of words) (task_held files) IsCaseOf IsVerdict status
