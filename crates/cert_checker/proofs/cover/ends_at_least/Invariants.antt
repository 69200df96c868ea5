use Rattle.std.specs.Prelude.{not, ◌||◌}
use Rattle.std.proofs.Common.{◌≡◌, drop}
use Rattle.std.specs.List.{list_all}
use Rattle.tail_book.specs.Numbers.{int_le}
use Rattle.tail_book.specs.declared.place.Place.TheVariants.{After}
use Rattle.branch_marks.specs.MarkTests.{may_end}
use Rattle.cert_checker.proofs.cover.ends_at_least.Given as goal

-- the labels from i on decide
abbrev pub invariant-loop-i : goal.invariant-loop-i
invariant-loop-i l =
    list_all (λ member. not (may_end l.leaf.marks.now.facts l.leaf.k (After member.at)) || int_le l.low member.weight) l.leaf.family.now
    ≡ list_all (λ member. not (may_end l.leaf.marks.now.facts l.leaf.k (After member.at)) || int_le l.low member.weight) (drop l.i l.leaf.family.now)
