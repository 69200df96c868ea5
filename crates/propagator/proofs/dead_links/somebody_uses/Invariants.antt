use Rattle.std.proofs.Common.{◌-◌, ◌<◌, ℕ}
use Rattle.tail_book.specs.declared.place.Place.TheVariants.{After}
use Rattle.tail_book.specs.Lookup.{aircraft}
use Rattle.branch_marks.specs.Marks.{IsUsable}
use Rattle.propagator.proofs.dead_links.somebody_uses.Given as goal

-- none of the aircraft below k may use the link
abbrev pub invariant-loop-k : goal.invariant-loop-k
invariant-loop-k l = (j : ℕ) → j < l.k → ¬ IsUsable l.book l.marks.facts j (After l.a) l.b

abbrev pub decreases-loop-k : goal.decreases-loop-k
decreases-loop-k l = aircraft l.book - l.k
