use Rattle.std.proofs.Common.{◌≡◌, ◌<◌, ℕ, get_or}
use Rattle.turn_rules.specs.inside.NumberSet.{has}
use Rattle.maint_counters.specs.inside.StepTable.{no_counter}
use Rattle.pricing.specs.inside.Lines.{clears}
use Rattle.pricing.proofs.airport.are_cleared.Given as goal

abbrev pub invariant-loop-c : goal.invariant-loop-c
invariant-loop-c l = (q : ℕ) → q < l.c → has l.window.cleared q ≡ clears l.port l.window.lo (get_or l.counters q no_counter)
