use Rattle.std.specs.Prelude.{◌<◌, ◌+ℤ◌, ◌≤ℤ◌, ℕ, pos, slice_index_or}
use Rattle.quota_demands.specs.Potentials.{potential}
use Rattle.quota_demands.proofs.potentials.hold_first.Given as goal

-- so it is of those so far
abbrev pub invariant-loop-i : goal.invariant-loop-i
invariant-loop-i l = (j : ℕ) → j < l.i → (potential l.coming (slice_index_or l.heads j 0) +ℤ potential l.carried l.k) ≤ℤ pos 0
