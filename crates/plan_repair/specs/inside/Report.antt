-- Which repairs can be printed. For src/report.rt.
use Rattle.std.specs.Prelude.{⊤}
use Rattle.tail_book.specs.Seen.{BookSeen}
use Rattle.plan_report.specs.inside.Report.{IsPlanFor}
use Rattle.plan_repair.specs.declared.answer.Repair.{Repair}
use Rattle.plan_repair.specs.declared.answer.Repair.TheVariants.{Done, Infeasible}

-- the plan, where there is one, has one route for each aircraft, each of activities of the book
abbrev pub HasPlanFor : BookSeen → Repair → Type 0
HasPlanFor book (Done plan moves cost) = IsPlanFor book plan
HasPlanFor book Infeasible = ⊤
