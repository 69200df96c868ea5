use Rattle.std.proofs.Common.{take}
use Rattle.best_first.specs.inside.Links.{IsLinked}
use Rattle.best_first.proofs.links.add_links.Given as goal

-- the facts so far were added
abbrev pub invariant-loop-i : goal.invariant-loop-i
invariant-loop-i l = IsLinked l.fn.links.items l.links.items l.end (take l.i l.facts) l.last
