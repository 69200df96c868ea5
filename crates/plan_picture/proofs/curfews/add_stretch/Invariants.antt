use Rattle.std.proofs.Common.{◌≡◌, ◌++◌, drop}
use Rattle.plan_picture.specs.Curfews.{bands_from}
use Rattle.plan_picture.proofs.curfews.add_stretch.Given as goal

-- the bands so far, and those of the curfews that are left
abbrev pub invariant-loop-c : goal.invariant-loop-c
invariant-loop-c l =
    l.initial.lines.items ++ bands_from l.book l.port l.height l.stretch 0 l.book.rules.curfews ≡ l.lines.items ++ bands_from l.book l.port l.height l.stretch l.c (drop l.c l.book.rules.curfews)
