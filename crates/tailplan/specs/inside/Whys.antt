-- With which status a run ends that told why no plan is legal. For src/explained.rt.
use Rattle.std.specs.Prelude.{ℕ}
use Rattle.shortage_report.specs.declared.why.Why.{Why}
use Rattle.shortage_report.specs.declared.why.Why.TheVariants.{Feasible, Short, Nothing}

-- the status of what was told
abbrev pub why_status : Why → ℕ
why_status Feasible = 0
why_status (Short found) = 1
why_status (Nothing uncovered) = 1
