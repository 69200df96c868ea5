use Rattle.fee_master.specs.inside.Lines.{IsLowest}
use Rattle.fee_master.proofs.lines.lowest.Given as goal

-- it is the lowest of those so far
abbrev pub invariant-loop-q : goal.invariant-loop-q
invariant-loop-q l = IsLowest l.numbers l.q l.weights l.times l.rise l.touch
