use Rattle.std.proofs.Common.{◌≡◌, ◌<◌, ◌∙◌, arith, rules, length, get_or, set, sym, Bool}
use Rattle.std.proofs.lemmas.List.{get_or_default}
use Rattle.restricted_master.specs.declared.entry.Entry.{Entry}
use Rattle.restricted_master.specs.Keeping.{fits_entry}
use Rattle.restricted_master.specs.inside.Flat.{pooled_in}
use Rattle.restricted_master.proofs.Compaction.{compact_keep, compact_drop, same_compacts}
use Rattle.restricted_master.proofs.dropped_routes.keep.Goals.{then-fits, else-fits}
use Rattle.restricted_master.proofs.dropped_routes.keep.Goals as goal

-- what fits moves to the front
pub loop-q-preserved : goal.loop-q-preserved
loop-q-preserved c =
    let moved = c.loop-q.invariant in
    let now = c.loop-q.entries.items in
    let e : Entry = c.index.result.now in
    let d : Entry = record { start = 0; end = 0; aircraft = 0; hash = 0; cost = 0 } in
    let stays : Entry → Bool = λ entry. fits_entry c.args.book.now c.args.marks.now.facts (pooled_in c.args.activities.now entry) in
    let within : c.loop-q.q < length c.args.entries.now.items = omega (arith, c.loop-q-test.true, moved.same) in
    let read : e ≡ get_or now c.loop-q.q e = search rules in
    let is : e ≡ get_or now c.loop-q.q d = read ∙ get_or_default now c.loop-q.q e d (omega (arith, within, moved.same)) in
    elim c.if-fits.branch [
      | then-fits w ↦
          (let same : c.if-fits.entries.items ≡ set now c.loop-q.kept e = search rules in
          same_compacts stays d _ _ _ _ _ _ (compact_keep stays d c.args.entries.now.items now c.loop-q.kept c.loop-q.q moved within e is (sym c.fits.ensures ∙ w.if-fits.true)) same w.kept-is)
      | else-fits w ↦
          (let same : c.if-fits.entries.items ≡ now = search rules in
          same_compacts stays d _ _ _ _ _ _ (compact_drop stays d c.args.entries.now.items now c.loop-q.kept c.loop-q.q moved within e is (sym c.fits.ensures ∙ w.if-fits.false)) same w.kept-is)
    ]
