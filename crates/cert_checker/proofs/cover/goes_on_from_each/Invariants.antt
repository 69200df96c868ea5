use Rattle.std.proofs.Common.{◌≡◌, drop}
use Rattle.cert_checker.specs.inside.Leaf.{goes_on_from_each}
use Rattle.cert_checker.proofs.cover.goes_on_from_each.Given as goal

-- the labels from i on decide
abbrev pub invariant-loop-i : goal.invariant-loop-i
invariant-loop-i l = goes_on_from_each l.leaf l.leaf.family.now ≡ goes_on_from_each l.leaf (drop l.i l.leaf.family.now)
