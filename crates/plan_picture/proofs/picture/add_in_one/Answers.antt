use Rattle.std.proofs.Common.{◌≡◌, ◌∙◌, ◌++◌, ◌∷◌, [], ap, ap₂, rules}
use Rattle.plan_picture.specs.Fixed.{close}
use Rattle.plan_picture.specs.Moved.{moves_lines}
use Rattle.plan_picture.specs.Picture.{body_lines, front_lines, height_of, width_of}
use Rattle.plan_picture.proofs.Appends.{four_parts}
use Rattle.plan_picture.proofs.picture.add_in_one.Goals as goal

-- the parts one after the other
pub returns : goal.returns
returns c =
    let book = c.args.book.now in
    let rules_seen = c.args.rules.now in
    let list = c.args.uncovered.now in
    let width : c.width_of-width.result ≡ width_of book = c.width_of-width.ensures.value in
    let height : c.height_of-height.result ≡ height_of book list = c.height_of-height.ensures.value in
    let front : c.add_front.new.lines.items ≡ c.args.lines.now.items ++ front_lines (width_of book) (height_of book list) c.args.cost rules_seen =
    c.in_ok-add_front.ensures ∙ ap₂ (λ w h. c.args.lines.now.items ++ front_lines w h c.args.cost rules_seen) width height in
    let plan : c.deref.result.now ≡ c.args.plan.now = search rules in
    let moved : c.add_moves.new.lines.items ≡ c.add_front.new.lines.items ++ moves_lines c.args.view.now.homes c.args.plan.now =
    c.in_ok-add_moves.ensures ∙ ap (λ p. c.add_front.new.lines.items ++ moves_lines c.args.view.now.homes p) plan in
    let body : c.add_body.new.lines.items ≡ c.add_moves.new.lines.items ++ body_lines c.args.view.now book c.args.plan.now rules_seen list = c.in_ok-add_body.ensures in
    let end : c.push.new.self.items ≡ c.add_body.new.lines.items ++ close ∷ [] =
    c.in_ok-push.ensures.items ∙ ap (λ z. c.add_body.new.lines.items ++ z ∷ []) (c.in_ok-fixed_line.ensures ∙ c.close.ensures) in
    four_parts c.args.lines.now.items c.add_front.new.lines.items c.add_moves.new.lines.items c.add_body.new.lines.items c.push.new.self.items _ _ _ _ front moved body end
