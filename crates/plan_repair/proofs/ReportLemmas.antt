-- A repair that is true can be written, since a legal plan has a route for each aircraft of the book's activities; and what
-- is written of it is read back, by the law of plan files.
use Rattle.tail_book.specs.inside.Partition.{LegalPlansFlyTheBook}
use Rattle.plan_report.specs.inside.Laws.{RepairedIsReadBack}
use Rattle.plan_repair.specs.declared.answer.Repair.TheVariants.{Done, Infeasible}
use Rattle.plan_repair.specs.inside.Laws.{RepairIsReadBack, TrueRepairsCanBeWritten}

pub can_be_written : LegalPlansFlyTheBook → TrueRepairsCanBeWritten
can_be_written fly book homes (Done plan moves cost) truth = record {
  one_each = truth.0.legal.one_each;
  activities = fly book plan truth.0.legal;
}
can_be_written fly book homes Infeasible truth = tt

pub read_back : RepairedIsReadBack → RepairIsReadBack
read_back law book sound (Done plan moves cost) known = λ once small_moves small_cost. law book sound plan moves cost known once small_moves small_cost
read_back law book sound Infeasible known = tt
