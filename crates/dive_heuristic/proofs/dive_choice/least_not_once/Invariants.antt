use Rattle.std.proofs.Common.{◌≡◌, ◌<◌, ℕ}
use Rattle.tail_book.specs.Plan.{times_flown}
use Rattle.dive_heuristic.proofs.dive_choice.least_not_once.Given as goal

-- each activity so far is flown once
abbrev pub invariant-loop-a : goal.invariant-loop-a
invariant-loop-a l = (b : ℕ) → b < l.a → times_flown l.routes b ≡ 1
