use Rattle.std.proofs.Common.{◌≡◌, ◌+◌, ◌<◌, ℕ}
use Rattle.pricing.specs.inside.Waiting.{window_at}
use Rattle.pricing.proofs.airport.join.Given as goal

abbrev pub invariant-loop-i : goal.invariant-loop-i
invariant-loop-i l = (q : ℕ) → q + 1 < l.i → (window_at l.windows (q + 1)).lo ≡ (window_at l.windows q).hi
