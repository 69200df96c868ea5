use Rattle.std.proofs.Common.{slice_index_or}
use Rattle.std.specs.Prelude.{not}
use Rattle.restricted_master.specs.Lists.{has}
use Rattle.restricted_master.specs.inside.Least.{IsLeastBelow, weight_at}
use Rattle.restricted_master.proofs.aircraft_choices.least_without.Given as goal

-- the routes so far
abbrev pub invariant-loop-q : goal.invariant-loop-q
invariant-loop-q l =
    IsLeastBelow l.q (λ p. not (has l.pool l.a (slice_index_or l.numbers p 0))) (λ p. weight_at l.weights (slice_index_or l.numbers p 0)) l.least
