use Rattle.std.proofs.Common.{◌≡◌, ◌++◌, drop}
use Rattle.pricing.specs.Rows.{counters_of}
use Rattle.pricing.specs.inside.Lines.{keys}
use Rattle.pricing.proofs.waiting.write_keys.Given as goal

-- what is left is written behind
abbrev pub invariant-loop-c : goal.invariant-loop-c
invariant-loop-c l =
    l.initial.key.items ++ keys l.port l.window.lo l.arrival l.counters (counters_of l.row) ≡ l.key.items ++ keys l.port l.window.lo l.arrival (drop l.c l.counters) (drop l.c (counters_of l.row))
