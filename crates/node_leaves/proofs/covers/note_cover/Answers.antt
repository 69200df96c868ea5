use Rattle.std.proofs.Common.{◌≡◌, ◌∙◌, List, [], ◌∷◌, subst}
use Rattle.branch_marks.specs.declared.event.Event.{Event}
use Rattle.branch_marks.specs.declared.event.Event.TheVariants as told
use Rattle.branch_marks.specs.ProofTree.{Cover}
use Rattle.branch_marks.specs.TreeEvents.{label_events}
use Rattle.branch_marks.specs.TreeLog.{Notes, NotesFront}
use Rattle.pricing.specs.Rows.{labels_of}
use Rattle.node_leaves.proofs.Cuts.{front_first, front_then, front_whole, notes_then}
use Rattle.node_leaves.proofs.FirstCovers.{cut_at_one}
use Rattle.node_leaves.proofs.covers.note_cover.Goals as goal

-- a line spells the value
pub note_value-requires : goal.note_value-requires
note_value-requires g c = record {
  value =
      c.least_weights_are_spelled.ensures c.args.table.now c.args.book.now c.every_book_is_sound.ensures c.every_cost_table_is_sound.ensures c.requires.ready.pricer.costs
      c.args.marks.now.facts c.args.k c.args.duals.now.values c.args.value.now c.requires.duals c.requires.least;
}

-- the cut is at the value: there is a family that shows it
pub returns-in-Err-clause-cut : goal.returns-in-Err-clause-cut
returns-in-Err-clause-cut g c =
    let table = c.args.table.now in let book = c.args.book.now in let facts = c.args.marks.now.facts in let duals = c.args.duals.now.values in
    let k = c.args.k in let value = c.args.value.now in
    let old = g.L.TreeLog.shows c.args.log.now in let new = g.L.TreeLog.shows c.note_value.new.log in
    let (family, shown) = c.low_weights_are_shown.ensures table book c.every_book_is_sound.ensures facts k duals value c.requires.least.least in
    let cover : Cover = record { value = value; family = family } in
    cut_at_one table book facts duals k cover old new shown (front_first old new (told.Cover k value ∷ []) (label_events family) c.in-Err.ensures.cut)

-- the value was told, and the log tells the same with the labels of any such family
pub returns-then-not-wants_labels-clause-noted : goal.returns-then-not-wants_labels-clause-noted
returns-then-not-wants_labels-clause-noted g c =
    let table = c.args.table.now in let book = c.args.book.now in let facts = c.args.marks.now.facts in let duals = c.args.duals.now.values in
    let k = c.args.k in let value = c.args.value.now in
    let (family, shown) = c.low_weights_are_shown.ensures table book c.every_book_is_sound.ensures facts k duals value c.requires.least.least in
    let cover : Cover = record { value = value; family = family } in
    (family, shown, λ before runs was. c.wants_labels.ensures c.if-not-wants_labels.true before k cover (c.in_default.ensures.noted before runs was))

-- the value was told, and none of the labels
pub returns-in-Err-family_of-clause-cut : goal.returns-in-Err-family_of-clause-cut
returns-in-Err-family_of-clause-cut g c =
    let table = c.args.table.now in let book = c.args.book.now in let facts = c.args.marks.now.facts in let duals = c.args.duals.now.values in
    let k = c.args.k in let value = c.args.value.now in
    let old = g.L.TreeLog.shows c.args.log.now in let new = g.L.TreeLog.shows c.note_value.new.log in
    let (family, shown) = c.low_weights_are_shown.ensures table book c.every_book_is_sound.ensures facts k duals value c.requires.least.least in
    let cover : Cover = record { value = value; family = family } in
    let head : List Event = told.Cover k value ∷ [] in
    cut_at_one table book facts duals k cover old new shown (front_first old new head (label_events family) (front_whole old new head c.in_default.ensures.noted))

-- the cut is in the labels
pub returns-in-Err-note_all-clause-cut : goal.returns-in-Err-note_all-clause-cut
returns-in-Err-note_all-clause-cut g c =
    let table = c.args.table.now in let book = c.args.book.now in let facts = c.args.marks.now.facts in let duals = c.args.duals.now.values in
    let k = c.args.k in let value = c.args.value.now in let family = labels_of c.family_of.new.prices.store in
    let old = g.L.TreeLog.shows c.args.log.now in let between = g.L.TreeLog.shows c.note_value.new.log in let new = g.L.TreeLog.shows c.note_all.new.log in
    let cover : Cover = record { value = value; family = family } in
    let due : c.deref.result.now ≡ label_events family = c.deref.ensures.value ∙ c.in-Ok.ensures.events in
    let front = subst (λ (es : List Event). NotesFront between new es) due c.in-Err-note_all.ensures.cut in
    cut_at_one table book facts duals k cover old new (c.in-Ok.ensures.shows value c.requires.least.least)
    (front_then old between new (told.Cover k value ∷ []) (label_events family) c.in-Err-note_all.ensures.later c.in_default.ensures.noted front)

-- the labels are told behind the value
pub returns-clause-noted : goal.returns-clause-noted
returns-clause-noted g c =
    let k = c.args.k in let value = c.args.value.now in let family = labels_of c.family_of.new.prices.store in
    let old = g.L.TreeLog.shows c.args.log.now in let between = g.L.TreeLog.shows c.note_value.new.log in let new = g.L.TreeLog.shows c.note_all.new.log in
    let due : c.deref.result.now ≡ label_events family = c.deref.ensures.value ∙ c.in-Ok.ensures.events in
    let rest = subst (λ (es : List Event). Notes between new es) due c.in_default-note_all.ensures.noted in (
      family,
      c.in-Ok.ensures.shows value c.requires.least.least,
      notes_then old between new (told.Cover k value ∷ []) (label_events family) c.in_default-note_all.ensures.later c.in_default.ensures.noted rest,
    )
