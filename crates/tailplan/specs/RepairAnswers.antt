-- When the answer of a repair is true, and what is printed for it. For src/repair_run.rt and src/repaired.rt.
use Rattle.std.specs.Prelude.{ℕ, ◌≡◌, List, Ok, Err, IfSome}
use Rattle.tail_book.specs.Seen.{RawPlanSeen}
use Rattle.tail_outside.specs.Shown.{FilesShown}
use Rattle.tail_text.specs.declared.refusal.Refusal.{Refusal}
use Rattle.plan_homes.specs.Homes.{homes}
use Rattle.plan_repair.specs.LeastRepair.{IsTrueRepair}
use Rattle.plan_repair.specs.RepairText.{repair_lines}
use Rattle.plan_report.specs.Lines.{text_of}
use Rattle.run_frame.specs.Answer.{IsTrueAnswer as IsTrueOf, lines_of}
use Rattle.run_frame.specs.TableFiles.{OfHeld}
use Rattle.run_frame.specs.declared.answer.Answer.{Answer as AnswerOf}
use Rattle.tailplan.specs.RepairCases.{case_of}
use Rattle.tailplan.specs.FourTexts.{MayReadTexts, FourTextsSeen, texts_held}
use Rattle.tailplan.specs.RepairWords.{repair_of}
use Rattle.tailplan.specs.Usage.{repair_usage_line}
use Rattle.tailplan.specs.declared.repaired.Repaired.{Repaired}

-- what a repair answers
abbrev pub RepairAnswer : Type 0
RepairAnswer = AnswerOf Repaired

-- the files that the words name may be read
abbrev pub MayReadPlan : List (List ℕ) → FilesShown → Type 0
MayReadPlan words files = IfSome (repair_of words) (MayReadTexts files)

-- the words give four names, and P holds of the files under them, where they are told
abbrev pub OfTexts : List (List ℕ) → FilesShown → (FourTextsSeen → Type 0) → Type 0
OfTexts words files P = OfHeld (repair_of words) (texts_held files) P

-- this is the first refusal of the files
abbrev pub AreRefusedTexts : FourTextsSeen → Refusal → Type 0
AreRefusedTexts texts refusal = case_of texts ≡ Err refusal

-- the tables are this book, and for the homes in the plan of its file this is a true repair
abbrev pub AreRepaired : FourTextsSeen → Repaired → Type 0
AreRepaired texts found =
    (plan : RawPlanSeen) × (case_of texts ≡ Ok (record { book = found.book; plan = plan })) × IsTrueRepair found.book (homes found.book plan) found.repair

-- the answer is true of these words and files
abbrev pub IsTrueRepairAnswer : List (List ℕ) → FilesShown → RepairAnswer → Type 0
IsTrueRepairAnswer words files answer = IsTrueOf (repair_of words) (texts_held files) AreRefusedTexts AreRepaired answer

-- what is printed for an answer
abbrev pub repair_answer_text : RepairAnswer → List ℕ
repair_answer_text answer = text_of (lines_of repair_usage_line (λ found. repair_lines found.book found.repair) answer)
