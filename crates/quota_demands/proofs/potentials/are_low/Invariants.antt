use Rattle.std.specs.Prelude.{◌<◌, ◌≤ℤ◌, ℕ, pos, slice_index_or}
use Rattle.quota_demands.proofs.potentials.are_low.Given as goal

-- so it is of those so far
abbrev pub invariant-loop-i : goal.invariant-loop-i
invariant-loop-i l = (j : ℕ) → j < l.i → slice_index_or l.values j (pos 0) ≤ℤ pos 0
