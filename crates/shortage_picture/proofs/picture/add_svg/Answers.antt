use Rattle.std.proofs.Common.{◌≡◌, ◌∙◌, ◌++◌, ◌∷◌, [], ap, ap₂}
use Rattle.plan_picture.specs.Fixed.{close}
use Rattle.plan_picture.specs.Picture.{whole_front, width_of}
use Rattle.shortage_picture.specs.Picture.{body_lines, front_lines, height_of}
use Rattle.shortage_picture.specs.Span.{days_of, first_day}
use Rattle.shortage_picture.specs.Strips.{strip_lines}
use Rattle.shortage_picture.proofs.LaneLemmas.{five_parts}
use Rattle.shortage_picture.proofs.picture.add_svg.Goals as goal

-- the parts one after the other
pub returns : goal.returns
returns c =
    let book = c.args.book.now in
    let told = c.args.told.now in
    let height : c.height_of-height.result ≡ height_of told = c.height_of-height.ensures.value in
    let from : c.first_day-from.result ≡ first_day book told = c.first_day-from.ensures.value in
    let days : c.days_of-days.result ≡ days_of book told = c.days_of-days.ensures.value in
    let front : c.add_front.new.lines.items ≡ c.args.lines.now.items ++ front_lines (height_of told) (days_of book told) told =
    c.in_ok-add_front.ensures ∙ ap₂ (λ h d. c.args.lines.now.items ++ front_lines h d told) height days in
    let whole : c.add_whole_front.new.lines.items ≡ c.add_front.new.lines.items ++ whole_front (width_of book) (height_of told) =
    c.in_ok-add_whole_front.ensures ∙ ap₂ (λ w h. c.add_front.new.lines.items ++ whole_front w h) c.width_of.ensures.value height in
    let body : c.add_body.new.lines.items ≡ c.add_whole_front.new.lines.items ++ body_lines c.args.airport book told = c.in_ok-add_body.ensures in
    let below : c.add_strip_lines.new.lines.items ≡ c.add_body.new.lines.items ++ strip_lines (height_of told) (first_day book told) (days_of book told) =
    c.in_ok-add_strip_lines.ensures ∙ ap (λ h. c.add_body.new.lines.items ++ strip_lines h c.first_day-from.result c.days_of-days.result) height
    ∙ ap₂ (λ f d. c.add_body.new.lines.items ++ strip_lines (height_of told) f d) from days in
    let end : c.push.new.self.items ≡ c.add_strip_lines.new.lines.items ++ close ∷ [] =
    c.in_ok-push.ensures.items ∙ ap (λ z. c.add_strip_lines.new.lines.items ++ z ∷ []) (c.in_ok-fixed_line.ensures ∙ c.close.ensures) in
    five_parts c.args.lines.now.items c.add_front.new.lines.items c.add_whole_front.new.lines.items c.add_body.new.lines.items c.add_strip_lines.new.lines.items c.push.new.self.items
    _ _ _ _ _ front whole body below end
