use Rattle.std.proofs.Common.{◌≡◌, take}
use Rattle.branch_marks.specs.inside.Named.{named_by}
use Rattle.branch_marks.specs.inside.MarkTables.{names_at}
use Rattle.branch_marks.proofs.naming.Naming.of_facts.Given as goal

-- what the facts so far name
abbrev pub invariant-loop-i : goal.invariant-loop-i
invariant-loop-i l = l.named ≡ named_by (names_at l.self l.a) (take l.i l.facts)
