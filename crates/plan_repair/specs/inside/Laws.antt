-- The laws of reports: a true repair can be printed, and what is printed of it is read back. For src/laws.rt.
use Rattle.std.specs.Prelude.{ℕ, ◌≡◌, ◌<◌, ◌^◌, ⊤, List, Ok, Option}
use Rattle.tail_book.specs.Seen.{BookSeen}
use Rattle.tail_book.specs.inside.Sound.{IsBook}
use Rattle.plan_report.specs.PlanText.{plan_in}
use Rattle.plan_report.specs.inside.Laws.{HasNoRepeats, names_of_plan}
use Rattle.plan_repair.specs.LeastRepair.{IsTrueRepair}
use Rattle.plan_repair.specs.RepairText.{repair_text}
use Rattle.plan_repair.specs.declared.answer.Repair.{Repair}
use Rattle.plan_repair.specs.declared.answer.Repair.TheVariants.{Done, Infeasible}
use Rattle.plan_repair.specs.inside.Report.{HasPlanFor}

-- the law of true repairs: their plan has one route for each aircraft, of activities of the book
abbrev pub TrueRepairsCanBeWritten : Type 0
TrueRepairsCanBeWritten = (book : BookSeen) (homes : List (Option ℕ)) (repair : Repair) → IsTrueRepair book homes repair → HasPlanFor book repair

-- a repaired plan in which no activity stands twice, with numbers of 64 bits, is read as its names
abbrev pub IsReadBack : BookSeen → Repair → Type 0
IsReadBack book (Done plan moves cost) =
    HasNoRepeats book plan → moves < 2 ^ 64 → cost < 2 ^ 64 → plan_in (repair_text book (Done plan moves cost)) ≡ Ok (names_of_plan book plan)
IsReadBack book Infeasible = ⊤

-- the law of reading back
abbrev pub RepairIsReadBack : Type 0
RepairIsReadBack = (book : BookSeen) → IsBook book → (repair : Repair) → HasPlanFor book repair → IsReadBack book repair
