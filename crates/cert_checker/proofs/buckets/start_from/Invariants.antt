use Rattle.std.proofs.Common.{◌<◌, ◌≤◌, ℕ, length}
use Rattle.cert_checker.specs.inside.Buckets.{at_in}
use Rattle.cert_checker.proofs.buckets.start_from.Given as goal

-- the labels before i are of earlier activities
abbrev pub invariant-loop-i : goal.invariant-loop-i
invariant-loop-i l = (l.i ≤ length l.family) × ((j : ℕ) → j < l.i → at_in l.family j < l.b)
