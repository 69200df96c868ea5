use Rattle.std.proofs.Common.{◌∙◌, ℤ, List, rules, w64, ap, sym, subst}
use Rattle.std.specs.Prelude.{IsTrue}
use Rattle.std.proofs.lemmas.Int.{to_z-of_z}
use Rattle.tail_book.specs.declared.place.Place.{Place}
use Rattle.pricing.specs.inside.WeightRange.{IsSmall}
use Rattle.pricing.specs.Rows.{weight_of}
use Rattle.pricing.specs.inside.Truth.{place_of, row_after}
use Rattle.fee_pricing.specs.inside.Truth.{IsNext}
use Rattle.fee_pricing.specs.inside.ForAsked.{arc_for}
use Rattle.fee_pricing.proofs.fill.try_row.Goals as goal

-- a true row is small
pub stepped-requires-clause-light : goal.stepped-requires-clause-light
stepped-requires-clause-light c =
    subst (λ (r : List ℤ). IsSmall (weight_of r)) (sym c.requires.row)
    (c.true_rows_are_small.ensures (arc_for c.args.asked.now) c.args.asked.now.book.now c.args.asked.now.marks.now.facts c.args.asked.now.k c.args.store.now c.args.parent
    c.every_book_is_sound.ensures c.links_are_fair.ensures c.requires.truth)

-- the step was within the limits
pub put-requires-clause-next : goal.put-requires-clause-next
put-requires-clause-next c =
    let book = c.args.asked.now.book.now in
    let k = c.args.asked.now.k in
    let within : IsTrue c.stepped.result = search rules in
    let next : IsNext (arc_for c.args.asked.now) book c.args.asked.now.marks.now.facts k c.args.from c.args.row.now c.args.b c.stepped.new.row = record {
      usable = c.requires.usable;
      within = c.stepped.ensures.limits.0 within;
      counts = c.stepped.ensures.counts within;
      values = c.stepped.ensures.row ∙ ap (λ (arc : ℤ). row_after book k arc c.args.from c.args.b c.args.row.now) (to_z-of_z w64 c.args.arc c.ranges.arc ∙ c.requires.arc);
    } in
    subst (λ (r : List ℤ). IsNext (arc_for c.args.asked.now) book c.args.asked.now.marks.now.facts k (place_of c.args.store.now c.args.parent) r c.args.b c.stepped.new.row) c.requires.row
    (subst (λ (x : Place). IsNext (arc_for c.args.asked.now) book c.args.asked.now.marks.now.facts k x c.args.row.now c.args.b c.stepped.new.row) c.requires.from next)
