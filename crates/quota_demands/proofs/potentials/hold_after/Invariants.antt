use Rattle.std.specs.Prelude.{◌<◌, ◌+ℤ◌, ◌≤ℤ◌, ℕ, slice_index_or}
use Rattle.quota_demands.specs.Potentials.{potential, use_of}
use Rattle.quota_demands.proofs.potentials.hold_after.Given as goal

-- so it is of those so far
abbrev pub invariant-loop-i : goal.invariant-loop-i
invariant-loop-i l = (j : ℕ) → j < l.i → (potential l.coming l.b +ℤ potential l.leaving (slice_index_or l.before j 0)) ≤ℤ use_of l.book l.quota (slice_index_or l.before j 0) l.b
