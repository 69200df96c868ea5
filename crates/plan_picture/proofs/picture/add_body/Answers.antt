use Rattle.std.proofs.Common.{◌≡◌, ◌∙◌, ◌++◌, FitsSigned, ap, ap₂, of_z, rules, to_z, w64}
use Rattle.plan_picture.specs.Curfews.{bands}
use Rattle.plan_picture.specs.Layout.{days_shown, first_moment}
use Rattle.plan_picture.specs.Moved.{marked_by}
use Rattle.plan_picture.specs.Picture.{day_lines, height_of, width_of}
use Rattle.plan_picture.specs.Rows.{rows_from, uncovered_rows}
use Rattle.plan_picture.proofs.Appends.{four_parts}
use Rattle.plan_picture.proofs.Signed.{as_it_was}
use Rattle.plan_picture.proofs.picture.add_body.Goals as goal

-- the parts one after the other
pub returns : goal.returns
returns c =
    let book = c.args.book.now in
    let rules_seen = c.args.rules.now in
    let list = c.args.uncovered.now in
    let fits : FitsSigned w64 c.first_moment-first.result = search rules in
    let first : to_z w64 (of_z w64 c.first_moment-first.result) ≡ first_moment book = as_it_was c.first_moment-first.result fits ∙ c.first_moment-first.ensures.value in
    let width : c.width_of-width.result ≡ width_of book = c.width_of-width.ensures.value in
    let height : c.height_of.result ≡ height_of book list = c.height_of.ensures.value in
    let plan : c.deref.result.now ≡ c.args.plan.now = search rules in
    let port : c.view.inside.airport ≡ c.args.view.now.airport = search rules in
    let curfews : c.add_bands.new.lines.items ≡ c.args.lines.now.items ++ bands book c.args.view.now.airport (height_of book list) =
    c.in_ok-add_bands.ensures ∙ ap₂ (λ p h. c.args.lines.now.items ++ bands book p h) port height in
    let days : c.add_days.new.lines.items ≡ c.add_bands.new.lines.items ++ day_lines (first_moment book) (days_shown book) =
    c.in_ok-add_days.ensures ∙ ap₂ (λ f d. c.add_bands.new.lines.items ++ day_lines f d) first c.days_shown.ensures.value in
    let rows : c.add_rows.new.lines.items ≡ c.add_days.new.lines.items ++ rows_from book (marked_by c.args.view.now.homes) (first_moment book) (width_of book) rules_seen 0 c.args.plan.now =
    c.in_ok-add_rows.ensures ∙ ap₂ (λ f w. c.add_days.new.lines.items ++ rows_from book c.marked_by-homes.result.now f w rules_seen 0 c.deref.result.now) first width
    ∙ ap (λ m. c.add_days.new.lines.items ++ rows_from book m (first_moment book) (width_of book) rules_seen 0 c.deref.result.now) c.marked_by-homes.ensures
    ∙ ap (λ p. c.add_days.new.lines.items ++ rows_from book (marked_by c.args.view.now.homes) (first_moment book) (width_of book) rules_seen 0 p) plan in
    let below : c.add_uncovered.new.lines.items ≡ c.add_rows.new.lines.items ++ uncovered_rows book (first_moment book) (width_of book) list =
    c.in_ok-add_uncovered.ensures ∙ ap₂ (λ f w. c.add_rows.new.lines.items ++ uncovered_rows book f w list) first width in
    four_parts c.args.lines.now.items c.add_bands.new.lines.items c.add_days.new.lines.items c.add_rows.new.lines.items c.add_uncovered.new.lines.items _ _ _ _ curfews days rows below
