-- What a trial finds and prints, and what it promises by its status. For src/trial.rt and src/run.rt.
use Rattle.std.specs.Prelude.{ℕ, ◌≡◌, ◌≤◌, ◌==◌, ⊤, true, List, [], ◌∷◌, ◌++◌, Bool, Option, None, Some, String, codes, cond, decimal, if◌then◌else◌}
use Rattle.tail_book.specs.Seen.{BookSeen}
use Rattle.tail_book.specs.Truth.{IsTrueOutcome}
use Rattle.tail_book.specs.declared.outcome.Outcome.{Outcome}
use Rattle.tail_book.specs.declared.outcome.Outcome.TheVariants.{Optimal, Infeasible, Between, Above}
use Rattle.tail_outside.specs.Outside.{PieceHasFailed, Takes}
use Rattle.tail_outside.specs.Shown.{FilesShown, SinkShown}
use Rattle.branch_tree.specs.declared.limit.Limit.TheVariants.{Nodes}
use Rattle.cert_lines.specs.declared.version.Version.TheVariants.{Full}
use Rattle.certified_search.specs.Written.{IsCertificateOf}
use Rattle.certified_search.specs.declared.order.Order.TheVariants.{DepthFirst}
use Rattle.plan_report.specs.Lines.{text_of}
use Rattle.plan_report.specs.Report.{first_line}
use Rattle.run_frame.specs.Answer.{IsUnlessStopped, lines_of}
use Rattle.run_frame.specs.Promise.{PrintsFront}
use Rattle.run_frame.specs.Spelled.{spelled}
use Rattle.run_frame.specs.declared.answer.Answer.{Answer}
use Rattle.run_frame.specs.declared.answer.Answer.TheVariants.{Usage, Refused, Found, ReadFailed, Memory}
use Rattle.seed_tables.specs.Making.{IsBookOfTrial, making_cost}
use Rattle.seed_tables.specs.Trial.{trial_of}
use Rattle.tailplan.specs.Answers.{HasTree}
use Rattle.tailplan.specs.Promises.{IsBound, Promise}
use Rattle.tailplan.specs.QuotaPromises.{QuotaPromise}
use Rattle.tailplan.specs.QuotaWords.{is_quota, quota_of}
use Rattle.tailplan.specs.RepairPromises.{RepairPromise}
use Rattle.tailplan.specs.RepairWords.{is_repair, repair_of}
use Rattle.tailplan.specs.Usage.{usage_line}
use Rattle.tailplan.specs.WhyPromises.{WhyPromise}
use Rattle.tailplan.specs.WhyWords.{is_why, why_of}
use Rattle.tailplan.specs.Words.{run_of, seed_of}
use Rattle.tailplan.specs.declared.trial.TheConstants.{TRIAL_NODES}
use Rattle.tailplan.specs.declared.trial.Tried.{Tried}

-- the size of every trial, behind its seed
abbrev pub size_line : ℕ → List ℕ
size_line seed = codes "trial " ++ decimal seed ++ codes " activities 120 aircraft 8\n"

-- whether the certificate was accepted
abbrev pub check_line : Bool → List ℕ
check_line accepted = if accepted then codes "check yes\n" else codes "check no\n"

-- what is printed: the size, the first line of the report, and whether the certificate was accepted
abbrev pub tried_lines : ℕ → Outcome → Bool → List (List ℕ)
tried_lines seed outcome accepted = size_line seed ∷ first_line outcome ∷ check_line accepted ∷ []

-- where the outcome is least it is what the routes of the making cost, and where it is a bound it is no more than that; one of
-- the two it is
abbrev pub AgreesWith : ℕ → Outcome → Type 0
AgreesWith made (Optimal plan cost) = cost ≡ made
AgreesWith made Infeasible = ⊥
AgreesWith made (Between plan low high nodes) = low ≤ made
AgreesWith made (Above low nodes) = low ≤ made

-- the seed's tables are this book, of which the outcome is true; a search tree within the limit has it, and the text is its certificate
pub record IsTrial (seed : ℕ) (outcome : Outcome) : Type 0 where
  pub book : BookSeen
  pub text : List ℕ
  pub is : IsBookOfTrial seed (trial_of seed) book
  pub truth : IsTrueOutcome book outcome
  pub tree : HasTree book (Nodes TRIAL_NODES) DepthFirst outcome
  pub certified : IsCertificateOf book (Nodes TRIAL_NODES) DepthFirst Full outcome text
  pub agrees : AgreesWith (making_cost seed) outcome

-- this was found by the trial of the seed, and its certificate was accepted
pub record IsTriedOf (seed : ℕ) (tried : Tried) : Type 0 where
  pub asked : tried.seed ≡ seed
  pub accepted : tried.accepted ≡ true
  pub trial : IsTrial seed tried.outcome

-- a trial answers what it found, or that memory was wanting
abbrev pub IsTrialAnswer : ℕ → Answer Tried → Type 0
IsTrialAnswer seed Usage = ⊥
IsTrialAnswer seed (Refused refusal) = ⊥
IsTrialAnswer seed (Found tried) = IsTriedOf seed tried
IsTrialAnswer seed ReadFailed = ⊥
IsTrialAnswer seed Memory = ⊤

-- the lines of what was found
abbrev pub lines_of_tried : Tried → List (List ℕ)
lines_of_tried tried = tried_lines tried.seed tried.outcome tried.accepted

abbrev pub trial_text : Answer Tried → List ℕ
trial_text answer = text_of (lines_of usage_line lines_of_tried answer)

-- the outcome is a least plan
abbrev pub IsLeast : Outcome → Type 0
IsLeast (Optimal plan cost) = ⊤
IsLeast Infeasible = ⊥
IsLeast (Between plan low high nodes) = ⊥
IsLeast (Above low nodes) = ⊥

-- the three lines of an outcome of this kind were printed, the last of them a yes
pub record PrintsTrial (kind : Outcome → Type 0) (seed : ℕ) (before after : SinkShown) : Type 0 where
  pub outcome : Outcome
  pub of_kind : kind outcome
  pub trial : IsTrial seed outcome
  pub printed : Takes before after (text_of (tried_lines seed outcome true))

-- what the trial of a seed promises by its status: 0 the least cost, which is that of the making, 4 a bound at the limit, 6 and 7 a front
-- of the lines of a true answer, 6 after a piece that failed; no other status comes
abbrev pub TrialPromise : ℕ → SinkShown → SinkShown → ℕ → Type 0
TrialPromise seed before after status =
    cond (status == 0) (PrintsTrial IsLeast seed before after) (
    cond (status == 4) (PrintsTrial IsBound seed before after) (
    cond (status == 6) (PieceHasFailed before after × PrintsFront (IsTrialAnswer seed) trial_text before after) (
    cond (status == 7) (PrintsFront (IsTrialAnswer seed) trial_text before after)
    ⊥)))

-- words that ask for the trial of a seed promise what that does, and all others what a run over their files does
abbrev pub PromiseBy : Option ℕ → List (List ℕ) → FilesShown → FilesShown → SinkShown → SinkShown → ℕ → Type 0
PromiseBy None words files later before after status = Promise words files later before after status
PromiseBy (Some seed) words files later before after status = TrialPromise seed before after status

-- words that ask for a repair, why no plan is legal, or for quotas promise what that does, and all others one of these
abbrev pub PromiseOf : List (List ℕ) → FilesShown → FilesShown → SinkShown → SinkShown → ℕ → Type 0
PromiseOf words files later before after status =
    cond (is_repair words) (RepairPromise words files before after status) (
    cond (is_why words) (WhyPromise words files before after status) (
    cond (is_quota words) (QuotaPromise words files before after status)
    (PromiseBy (seed_of words) words files later before after status)))

-- what any run promises by its status, where its files and its output show what these two functions say of them
abbrev pub RunPromise : {F S Z : Type 0} → (F → FilesShown) → (S → SinkShown) → List (String Z) → F → F → S → S → ℕ → Type 0
RunPromise files_shown sink_shown words files later before after status =
    PromiseOf (spelled words) (files_shown files) (files_shown later) (sink_shown before) (sink_shown after) status

-- words that are neither those of a run over tables nor those of a trial, a repair or a run under quotas, and don't ask rightly why no
-- plan is legal, end with status 2, unless a write failed or memory was wanting
abbrev pub RefusesWords : List (List ℕ) → ℕ → Type 0
RefusesWords words status =
    run_of words ≡ None → seed_of words ≡ None → repair_of words ≡ None → why_of words ≡ None → quota_of words ≡ None → IsUnlessStopped 2 status
