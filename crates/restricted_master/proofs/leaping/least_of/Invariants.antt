use Rattle.std.proofs.Common.{true, Some, slice_index_or}
use Rattle.restricted_master.specs.inside.Least.{IsLeastBelow, weight_at}
use Rattle.restricted_master.proofs.leaping.least_of.Given as goal

-- the routes so far
abbrev pub invariant-loop-q : goal.invariant-loop-q
invariant-loop-q l = IsLeastBelow l.q (λ _. true) (λ p. weight_at l.weights (slice_index_or l.numbers p 0)) (Some l.least)
