use Rattle.std.proofs.Common.{◌∙◌, ℤ, List, rules, w64, ap, sym, subst}
use Rattle.std.specs.Prelude.{IsTrue}
use Rattle.std.proofs.lemmas.Int.{to_z-of_z}
use Rattle.tail_book.specs.declared.place.Place.{Place}
use Rattle.pricing.specs.Rows.{weight_of}
use Rattle.pricing.specs.inside.WeightRange.{IsSmall}
use Rattle.pricing.specs.inside.Truth.{IsNext, place_of, row_after}
use Rattle.route_search.proofs.reach.try_row.Goals as goal

-- a true row is small
pub stepped-requires-clause-light : goal.stepped-requires-clause-light
stepped-requires-clause-light c =
    subst (λ (r : List ℤ). IsSmall (weight_of r)) (sym c.requires.row)
    (c.true_rows_are_small.ensures c.args.task.now.table.now c.args.task.now.book.now c.args.task.now.marks.now.facts c.args.task.now.k c.args.task.now.duals.now.values c.args.store.now c.args.parent
    c.every_task_is_sound.ensures.book c.every_task_is_sound.ensures.table c.requires.task.table c.requires.task.duals c.requires.truth)

-- the step was within the limits
pub put-requires-clause-next : goal.put-requires-clause-next
put-requires-clause-next c =
    let table = c.args.task.now.table.now in
    let book = c.args.task.now.book.now in
    let facts = c.args.task.now.marks.now.facts in
    let k = c.args.task.now.k in
    let duals = c.args.task.now.duals.now.values in
    let within : IsTrue c.stepped.result = search rules in
    let next : IsNext table book facts k duals c.args.from c.args.row.now c.args.b c.stepped.new.row = record {
      usable = c.requires.usable;
      within = c.stepped.ensures.limits.0 within;
      counts = c.stepped.ensures.counts within;
      values = c.stepped.ensures.row ∙ ap (λ (arc : ℤ). row_after book k arc c.args.from c.args.b c.args.row.now) (to_z-of_z w64 c.args.arc c.ranges.arc ∙ c.requires.arc);
    } in
    subst (λ (r : List ℤ). IsNext table book facts k duals (place_of c.args.store.now c.args.parent) r c.args.b c.stepped.new.row) c.requires.row
    (subst (λ (x : Place). IsNext table book facts k duals x c.args.row.now c.args.b c.stepped.new.row) c.requires.from next)
