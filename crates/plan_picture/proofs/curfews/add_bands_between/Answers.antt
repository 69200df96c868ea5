use Rattle.std.proofs.Common.{◌≡◌, ◌∙◌, ◌+◌, ◌++◌, ℤ, List, ℕ, FitsSigned, ap₂, drop, get_or, of_z, pos, rules, subst, sym, to_z, w64}
use Rattle.tail_book.specs.declared.rules.Change.{Change}
use Rattle.plan_picture.specs.Curfews.{bands_in}
use Rattle.plan_picture.specs.Layout.{end_shown}
use Rattle.plan_picture.specs.Stretches.{stretch_from, stretches_from}
use Rattle.plan_picture.specs.inside.Cuts.{bands_until, from_behind}
use Rattle.plan_picture.specs.inside.Drawable.{IsNear}
use Rattle.plan_picture.proofs.Banded.{banded_behind, banded_last}
use Rattle.plan_picture.proofs.Signed.{as_it_was}
use Rattle.plan_picture.proofs.curfews.add_bands_between.Goals as goal

-- the bands of one change more, and the rest from behind it
pub loop-change-preserved : goal.loop-change-preserved
loop-change-preserved c =
    let book = c.args.book.now in
    let changes = c.args.changes.now in
    let i = c.loop-change.change-index in
    let from = to_z w64 c.loop-change.from-bits in
    let none : Change = record { at = pos 0; offset = pos 0 } in
    let change = get_or changes i none in
    let fits : FitsSigned w64 c.in_ok-from.from = search rules in
    let near : IsNear c.in_ok-from.from = search rules in
    let fits_end : FitsSigned w64 c.end_shown-end.result = search rules in
    let end : to_z w64 (of_z w64 c.end_shown-end.result) ≡ end_shown book = as_it_was c.end_shown-end.result fits_end ∙ c.end_shown-end.ensures.value in
    let told : c.add_until.new.lines.items ≡ c.loop-change.lines.items ++ bands_until book c.args.port c.args.height from (end_shown book) change =
    subst (λ (z : ℤ). c.add_until.new.lines.items ≡ c.loop-change.lines.items ++ bands_until book c.args.port c.args.height from z change) end c.in_ok-from.ensures.bands in
    let next : to_z w64 (of_z w64 c.in_ok-from.from) ≡ from_behind from (end_shown book) change =
    as_it_was c.in_ok-from.from fits ∙ subst (λ (z : ℤ). c.in_ok-from.from ≡ from_behind from z change) end c.in_ok-from.ensures.next in
    record {
      bands = banded_behind book c.args.port c.args.height from (end_shown book) changes i none c.loop-change-test.true _ _ c.loop-change.invariant.bands
          ∙ ap₂ (λ (lines : List (List ℕ)) (z : ℤ). lines ++ bands_in book c.args.port c.args.height (stretches_from book c.args.port z (end_shown book) (drop (i + 1) changes))) (sym told) (sym next);
      range = rw (as_it_was c.in_ok-from.from fits) near;
    }

-- behind the last change the stretch to the end is left
pub returns : goal.returns
returns c =
    let book = c.args.book.now in
    let from = to_z w64 c.loop-change.from-bits in
    let fits_end : FitsSigned w64 c.end_shown-end.result = search rules in
    let end : to_z w64 (of_z w64 c.end_shown-end.result) ≡ end_shown book = as_it_was c.end_shown-end.result fits_end ∙ c.end_shown-end.ensures.value in
    banded_last book c.args.port c.args.height from (end_shown book) c.args.changes.now c.loop-change.change-index _ _ c.loop-change.invariant.bands
    c.add_stretch.result c.stretch_from-last.result _ c.loop-change-test.false
    (subst (λ (z : ℤ). c.stretch_from-last.result ≡ stretch_from book c.args.port from z) end c.stretch_from-last.ensures.value) c.add_stretch.ensures
