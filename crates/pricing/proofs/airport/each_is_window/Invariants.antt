use Rattle.std.proofs.Common.{◌<◌, ℕ}
use Rattle.pricing.specs.inside.Waiting.{IsWindowOf, window_at}
use Rattle.pricing.proofs.airport.each_is_window.Given as goal

abbrev pub invariant-loop-i : goal.invariant-loop-i
invariant-loop-i l = (q : ℕ) → q < l.i → IsWindowOf l.bands l.counters l.port (window_at l.windows q)
