-- What a repair promises by its status, and when each status comes. For src/repair_run.rt and src/run.rt.
use Rattle.std.specs.Prelude.{ℕ, ◌≡◌, ◌==◌, ◌⊎◌, List, Ok, cond}
use Rattle.tail_book.specs.Cost.{plan_cost}
use Rattle.tail_book.specs.Truth.{HasNoPlan}
use Rattle.tail_outside.specs.Outside.{Takes}
use Rattle.tail_outside.specs.Shown.{FilesShown, SinkShown}
use Rattle.plan_homes.specs.Homes.{homes}
use Rattle.plan_homes.specs.Moves.{moves}
use Rattle.plan_repair.specs.LeastRepair.{IsLeastRepair}
use Rattle.plan_repair.specs.RepairText.{repair_text}
use Rattle.plan_repair.specs.declared.answer.Repair.TheVariants.{Done, Infeasible}
use Rattle.run_frame.specs.Promise.{ElsePromise, Judges, Refuses}
use Rattle.tailplan.specs.Promises.{HasPlan}
use Rattle.tailplan.specs.RepairAnswers.{AreRefusedTexts, IsTrueRepairAnswer, OfTexts, repair_answer_text}
use Rattle.tailplan.specs.RepairCases.{RepairCase, case_of}
use Rattle.tailplan.specs.FourTexts.{FourTextsSeen, texts_held}
use Rattle.tailplan.specs.RepairWords.{repair_of}
use Rattle.tailplan.specs.Usage.{repair_usage_line}

-- the files are a book and a published plan, and a least repair of it was printed, with its moves and its cost
pub record PrintsLeastRepair (before after : SinkShown) (texts : FourTextsSeen) : Type 0 where
  pub case : RepairCase
  pub plan : List (List ℕ)
  pub is : case_of texts ≡ Ok case
  pub least : IsLeastRepair case.book (homes case.book case.plan) plan
  pub printed : Takes before after (repair_text case.book (Done plan (moves (homes case.book case.plan) plan) (plan_cost case.book plan)))

-- the files are a book, of which no plan is legal, and a published plan, and that was printed
pub record PrintsNoRepair (before after : SinkShown) (texts : FourTextsSeen) : Type 0 where
  pub case : RepairCase
  pub is : case_of texts ≡ Ok case
  pub none : HasNoPlan case.book
  pub printed : Takes before after (repair_text case.book Infeasible)

-- what a repair of these words and files promises by its status, where the output was first so and then so: 0 a least repair,
-- 1 that no plan is legal, and else what every run promises
abbrev pub RepairPromise : List (List ℕ) → FilesShown → SinkShown → SinkShown → ℕ → Type 0
RepairPromise words files before after status =
    cond (status == 0) (OfTexts words files (PrintsLeastRepair before after)) (
    cond (status == 1) (OfTexts words files (PrintsNoRepair before after)) (
    ElsePromise (repair_of words) (texts_held files) AreRefusedTexts repair_usage_line (IsTrueRepairAnswer words files) repair_answer_text before after status))

-- the status says whether some plan of the book is legal: 0 where one is, and 1 where none is
abbrev pub IsRepairVerdict : RepairCase → ℕ → Type 0
IsRepairVerdict case status = ((status ≡ 0) × HasPlan case.book) ⊎ ((status ≡ 1) × HasNoPlan case.book)

-- files that are refused end with status 3, unless a read or a write failed or memory was wanting
abbrev pub RefusesTexts : List (List ℕ) → FilesShown → ℕ → Type 0
RefusesTexts words files status = Refuses (repair_of words) (texts_held files) AreRefusedTexts status

-- of a book and a plan that is read it is said whether some plan is legal, unless a read or a write failed or memory was wanting
abbrev pub JudgesRepair : List (List ℕ) → FilesShown → ℕ → Type 0
JudgesRepair words files status = Judges (repair_of words) (texts_held files) (λ texts case. case_of texts ≡ Ok case) IsRepairVerdict status
