-- What is promised by the status of a run that says why no plan is legal, and when each status comes. For src/why_run.rt and src/run.rt.
use Rattle.std.specs.Prelude.{ℕ, ◌≡◌, ◌==◌, ◌⊎◌, List, cond}
use Rattle.tail_book.specs.Plan.{IsLegalPlan}
use Rattle.tail_book.specs.Seen.{BookSeen}
use Rattle.tail_book.specs.Truth.{HasNoPlan}
use Rattle.tail_outside.specs.Outside.{Takes}
use Rattle.tail_outside.specs.Shown.{FilesShown, SinkShown}
use Rattle.run_frame.specs.Promise.{ElsePromise, Judges, Refuses}
use Rattle.run_frame.specs.TableFiles.{tables_held}
use Rattle.run_frame.specs.Tables.{TablesSeen}
use Rattle.shortage_report.specs.ShortageText.{why_text}
use Rattle.shortage_report.specs.Why.{IsTrueWhy, TellsOfNone}
use Rattle.shortage_report.specs.declared.why.Why.{Why}
use Rattle.shortage_report.specs.declared.why.Why.TheVariants.{Feasible}
use Rattle.tailplan.specs.Promises.{HasPlan}
use Rattle.tailplan.specs.Usage.{why_usage_line}
use Rattle.tailplan.specs.WhyAnswers.{AreBook, AreNoBook, IsTrueWhyAnswer, OfTables, why_answer_text}
use Rattle.tailplan.specs.WhyWords.{why_of}

-- the tables are a book of which a plan is legal, and that was printed
pub record PrintsFeasible (before after : SinkShown) (tables : TablesSeen) : Type 0 where
  pub book : BookSeen
  pub is : AreBook tables book
  pub legal : HasPlan book
  pub printed : Takes before after (why_text book Feasible)

-- the tables are a book of which no plan is legal, and that was printed, with activities that are a shortage, or that none was found
-- and activities that some choice of legal routes leaves out
pub record PrintsWhyNone (before after : SinkShown) (tables : TablesSeen) : Type 0 where
  pub book : BookSeen
  pub why : Why
  pub is : AreBook tables book
  pub none : HasNoPlan book
  pub of_none : TellsOfNone why
  pub truth : IsTrueWhy book why
  pub printed : Takes before after (why_text book why)

-- what is promised of these words and files by the status, where the output was first so and then so: 0 that a plan is legal, 1 that
-- none is, and else what every run promises
abbrev pub WhyPromise : List (List ℕ) → FilesShown → SinkShown → SinkShown → ℕ → Type 0
WhyPromise words files before after status =
    cond (status == 0) (OfTables words files (PrintsFeasible before after)) (
    cond (status == 1) (OfTables words files (PrintsWhyNone before after)) (
    ElsePromise (why_of words) (tables_held files) AreNoBook why_usage_line (IsTrueWhyAnswer words files) why_answer_text before after status))

-- the status says whether some plan of the book is legal: 0 where one is, and 1 where none is
abbrev pub IsWhyVerdict : BookSeen → ℕ → Type 0
IsWhyVerdict book status = ((status ≡ 0) × HasPlan book) ⊎ ((status ≡ 1) × HasNoPlan book)

-- tables that are refused end with status 3, unless a read or a write failed or memory was wanting
abbrev pub RefusesWhy : List (List ℕ) → FilesShown → ℕ → Type 0
RefusesWhy words files status = Refuses (why_of words) (tables_held files) AreNoBook status

-- of a book it is said whether some plan is legal, unless a read or a write failed or memory was wanting
abbrev pub JudgesWhy : List (List ℕ) → FilesShown → ℕ → Type 0
JudgesWhy words files status = Judges (why_of words) (tables_held files) AreBook IsWhyVerdict status
