-- With which status a repair ends that was printed. For src/repaired.rt.
use Rattle.std.specs.Prelude.{ℕ}
use Rattle.plan_repair.specs.declared.answer.Repair.{Repair}
use Rattle.plan_repair.specs.declared.answer.Repair.TheVariants.{Done, Infeasible}

-- the status of a repair that was printed
abbrev pub repair_status : Repair → ℕ
repair_status (Done plan moves cost) = 0
repair_status Infeasible = 1
