use Rattle.propagator.specs.inside.Moves.{MovesFloors}
use Rattle.propagator.specs.inside.CutOff.{IsCutOff}
use Rattle.propagator.specs.inside.Rising.{IsLowRow}
use Rattle.propagator.specs.inside.Touching.{IsRenewing}
use Rattle.propagator.proofs.due_floors.renew_floors.Given as goal

-- the floors below b are renewed, and none is too high
abbrev pub invariant-loop-b : goal.invariant-loop-b
invariant-loop-b l = IsRenewing l.book l.marks.facts l.k l.b l.row l.due l.ask × IsLowRow l.book l.marks.facts l.k l.row × IsCutOff l.book l.marks.facts l.k l.b l.after × MovesFloors l.initial.moved l.moved l.initial.row l.row
