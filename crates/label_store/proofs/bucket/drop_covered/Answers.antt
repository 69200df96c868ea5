use Rattle.std.proofs.Common.{◌≡◌, ◌<◌, ◌≤◌, ◌*◌, arith, rules, length, get_or, set, take, ◌∙◌, ap, ap₂, sym, subst, true, false, refl}
use Rattle.std.specs.Prelude.{not}
use Rattle.tail_book.specs.CounterOrder.{each_at_most}
use Rattle.label_store.specs.Buckets.{stays_beside}
use Rattle.label_store.specs.inside.Packing.{part, IsPacked, HasMoved}
use Rattle.label_store.proofs.Compaction.{compact_keep, compact_drop, same_compacts, compacted}
use Rattle.label_store.proofs.Packing.{packed_moved, packed_cut}
use Rattle.label_store.proofs.bucket.drop_covered.Goals.{then-not-covers, else-not-covers}
use Rattle.label_store.proofs.bucket.drop_covered.Goals as goal

-- what the test lets stay moves to the front
pub loop-q-preserved : goal.loop-q-preserved
loop-q-preserved c =
    let moved = c.loop-q.invariant.moved in
    let packed = c.loop-q.invariant.packed in
    let rows = c.args.rows.now.rows in
    let width = c.args.rows.now.width in
    let now = c.loop-q.bucket.items in
    let values = c.loop-q.values.items in
    let j = get_or now c.loop-q.q 0 in
    let within : c.loop-q.q < length c.args.bucket.now.items = omega arith in
    let here : c.loop-q.q < length now = omega (arith, within, moved.same) in
    let wide = c.width-width.ensures in
    let read : c.part_of.result.now ≡ part width c.loop-q.q values = c.part_of.ensures.part ∙ ap₂ (λ w v. part w c.loop-q.q v) wide c.deref.ensures.value in
    let tested : not c.covers.result ≡ stays_beside rows c.args.row.now j =
    ap not (c.covers.ensures ∙ ap (each_at_most c.args.row.now) (read ∙ packed.each c.loop-q.q here)) in
    elim c.if-not-covers.branch [
      | then-not-covers w ↦
          let same : c.if-not-covers.bucket.items ≡ set now c.loop-q.kept j = search rules in
          let come : HasMoved c.width-width.result c.loop-q.q c.loop-q.kept values c.if-not-covers.values.items = search rules in
          let stays : stays_beside rows c.args.row.now j ≡ true = sym tested ∙ ap not w.if-not-covers.true in
          record {
            moved = same_compacts _ _ _ _ _ _ _ (compact_keep _ _ _ _ _ moved within j refl stays) same w.kept-is;
            packed =
                subst (λ b. IsPacked width rows b c.if-not-covers.values.items) (sym same)
                (packed_moved width rows now values packed c.loop-q.q c.loop-q.kept c.if-not-covers.values.items here moved.order
                (subst (λ w. HasMoved w c.loop-q.q c.loop-q.kept values c.if-not-covers.values.items) wide come));
            room = search rules;
            room_of_values = search rules;
          }
      | else-not-covers w ↦
          let same : c.if-not-covers.bucket.items ≡ now = search rules in
          let same_values : c.if-not-covers.values.items ≡ values = search rules in
          let goes : stays_beside rows c.args.row.now j ≡ false = sym tested ∙ ap not w.if-not-covers.false in
          record {
            moved = same_compacts _ _ _ _ _ _ _ (compact_drop _ _ _ _ _ moved within j refl goes) same w.kept-is;
            packed =
                subst (λ b. IsPacked width rows b c.if-not-covers.values.items) (sym same)
                (subst (λ v. IsPacked width rows now v) (sym same_values) packed);
            room = search rules;
            room_of_values = search rules;
          }
    ]

-- at the end the front is what stays
pub returns-clause-stay : goal.returns-clause-stay
returns-clause-stay c =
    c.cut.ensures.numbers ∙ compacted _ _ _ _ _ c.loop-q.invariant.moved (omega arith)

-- with its values
pub returns-clause-packed : goal.returns-clause-packed
returns-clause-packed c =
    let rows = c.args.rows.now.rows in
    let width = c.args.rows.now.width in
    let bucket = c.loop-q.bucket.items in
    let values = c.loop-q.values.items in
    let moved = c.loop-q.invariant.moved in
    let few : c.loop-q.kept ≤ length bucket = omega (arith, moved.order, moved.same) in
    let cut = c.cut.ensures.values ∙ ap (λ w. take (c.loop-q.kept * w) values) c.width-width.ensures in
    subst (λ b. IsPacked width rows b c.cut.new.values.items) (sym c.cut.ensures.numbers)
    (subst (λ v. IsPacked width rows (take c.loop-q.kept bucket) v) (sym cut)
    (packed_cut width rows bucket values c.loop-q.invariant.packed c.loop-q.kept few))
