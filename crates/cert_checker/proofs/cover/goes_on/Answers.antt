use Rattle.std.specs.Prelude.{slice_index_or}
use Rattle.std.proofs.Common.{◌≡◌, ◌<◌, ℕ, ℤ, true, false, List, arith, length, sym, subst}
use Rattle.std.proofs.lemmas.Int.{to_z-of_z}
use Rattle.tail_book.specs.Lookup.{activities}
use Rattle.cert_checker.specs.inside.Leaf.{met}
use Rattle.cert_checker.proofs.MetWays.{goes_on_by, goes_on_not}
use Rattle.cert_checker.proofs.cover.goes_on.Goals as goal

pub returns-then-not-is_met : goal.returns-then-not-is_met
returns-then-not-is_met c =
    let book = c.args.leaf.now.book.now in
    let items = c.ways-b-items.result.now in
    let are = c.ways-b-items.ensures in
    let here : c.loop-b.b-index < length items = omega arith in
    let lt : slice_index_or items c.loop-b.b-index 0 < activities book =
    subst (λ (xs : List ℕ). slice_index_or xs c.loop-b.b-index 0 < activities book) (sym are)
    (c.ways_are_of_book.ensures book c.args.leaf.now.k c.args.from c.loop-b.b-index 0 (subst (λ (xs : List ℕ). c.loop-b.b-index < length xs) are here)) in
    sym (goes_on_not book c.args.leaf.now.marks.now.facts c.args.leaf.now.k c.args.leaf.now.duals.now c.args.leaf.now.family.now c.args.from c.args.weight c.args.counters.now
    (slice_index_or items c.loop-b.b-index 0) lt
    (subst (λ (z : ℤ). met book c.args.leaf.now.marks.now.facts c.args.leaf.now.k c.args.leaf.now.duals.now c.args.leaf.now.family.now c.args.from z c.args.counters.now (slice_index_or items c.loop-b.b-index 0) ≡ false)
    (to_z-of_z _ c.args.weight c.ranges.weight) (sym c.if-not-is_met.ensures)))

pub returns : goal.returns
returns c =
    let items = c.ways-b-items.result.now in
    sym (goes_on_by c.args.leaf.now.book.now c.args.leaf.now.marks.now.facts c.args.leaf.now.k c.args.leaf.now.duals.now c.args.leaf.now.family.now c.args.from c.args.weight c.args.counters.now
    c.ways_are_all.ensures c.requires.leaf.aircraft items c.ways-b-items.ensures
    (λ i lt. subst (λ (z : ℤ). met c.args.leaf.now.book.now c.args.leaf.now.marks.now.facts c.args.leaf.now.k c.args.leaf.now.duals.now c.args.leaf.now.family.now c.args.from z c.args.counters.now (slice_index_or items i 0) ≡ true)
    (to_z-of_z _ c.args.weight c.ranges.weight) (c.loop-b.invariant i (omega (arith, lt)))))
