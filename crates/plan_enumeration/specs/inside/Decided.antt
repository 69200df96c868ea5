-- Outcomes that decide a book: a least plan, or that no plan is legal, and no mere bounds. For src/enumerate.rt.
use Rattle.std.specs.Prelude.{⊤}
use Rattle.tail_book.specs.declared.outcome.Outcome.{Outcome}
use Rattle.tail_book.specs.declared.outcome.Outcome.TheVariants.{Optimal, Infeasible, Between, Above}

-- a least plan, or that no plan is legal
abbrev pub IsDecided : Outcome → Type 0
IsDecided (Optimal plan cost) = ⊤
IsDecided Infeasible = ⊤
IsDecided (Between plan low high nodes) = ⊥
IsDecided (Above low nodes) = ⊥
