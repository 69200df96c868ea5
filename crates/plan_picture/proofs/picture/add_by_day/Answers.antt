use Rattle.std.proofs.Common.{◌≡◌, ◌∙◌, ◌++◌, ◌∷◌, [], ap, ap₂, rules}
use Rattle.plan_picture.specs.Fixed.{close}
use Rattle.plan_picture.specs.Layout.{days_shown}
use Rattle.plan_picture.specs.Moved.{moves_lines}
use Rattle.plan_picture.specs.Picture.{body_lines, height_of, strips_front, whole_front, width_of}
use Rattle.plan_picture.specs.Strips.{strip_lines}
use Rattle.plan_picture.proofs.Appends.{six_parts}
use Rattle.plan_picture.proofs.picture.add_by_day.Goals as goal

-- the parts one after the other
pub returns : goal.returns
returns c =
    let book = c.args.book.now in
    let rules_seen = c.args.rules.now in
    let list = c.args.uncovered.now in
    let height : c.height_of-height.result ≡ height_of book list = c.height_of-height.ensures.value in
    let days : c.days_shown-days.result ≡ days_shown book = c.days_shown-days.ensures.value in
    let front : c.add_strips_front.new.lines.items ≡ c.args.lines.now.items ++ strips_front (height_of book list) (days_shown book) c.args.cost rules_seen =
    c.in_ok-add_strips_front.ensures ∙ ap₂ (λ h d. c.args.lines.now.items ++ strips_front h d c.args.cost rules_seen) height days in
    let plan : c.deref.result.now ≡ c.args.plan.now = search rules in
    let moved : c.add_moves.new.lines.items ≡ c.add_strips_front.new.lines.items ++ moves_lines c.args.view.now.homes c.args.plan.now =
    c.in_ok-add_moves.ensures ∙ ap (λ p. c.add_strips_front.new.lines.items ++ moves_lines c.args.view.now.homes p) plan in
    let whole : c.add_whole_front.new.lines.items ≡ c.add_moves.new.lines.items ++ whole_front (width_of book) (height_of book list) =
    c.in_ok-add_whole_front.ensures ∙ ap₂ (λ w h. c.add_moves.new.lines.items ++ whole_front w h) c.width_of.ensures.value height in
    let body : c.add_body.new.lines.items ≡ c.add_whole_front.new.lines.items ++ body_lines c.args.view.now book c.args.plan.now rules_seen list = c.in_ok-add_body.ensures in
    let below : c.add_strip_lines.new.lines.items ≡ c.add_body.new.lines.items ++ strip_lines (height_of book list) (days_shown book) =
    c.in_ok-add_strip_lines.ensures ∙ ap₂ (λ h d. c.add_body.new.lines.items ++ strip_lines h d) height days in
    let end : c.push.new.self.items ≡ c.add_strip_lines.new.lines.items ++ close ∷ [] =
    c.in_ok-push.ensures.items ∙ ap (λ z. c.add_strip_lines.new.lines.items ++ z ∷ []) (c.in_ok-fixed_line.ensures ∙ c.close.ensures) in
    six_parts c.args.lines.now.items c.add_strips_front.new.lines.items c.add_moves.new.lines.items c.add_whole_front.new.lines.items c.add_body.new.lines.items c.add_strip_lines.new.lines.items
    c.push.new.self.items _ _ _ _ _ _ front moved whole body below end
