-- With which status a run ends whose outcome was printed. For src/answer.rt and src/trial.rt.
use Rattle.std.specs.Prelude.{ℕ}
use Rattle.tail_book.specs.declared.outcome.Outcome.{Outcome}
use Rattle.tail_book.specs.declared.outcome.Outcome.TheVariants.{Optimal, Infeasible, Between, Above}

-- the status of an outcome that was printed
abbrev pub outcome_status : Outcome → ℕ
outcome_status (Optimal plan cost) = 0
outcome_status Infeasible = 1
outcome_status (Between plan low high nodes) = 4
outcome_status (Above low nodes) = 4
