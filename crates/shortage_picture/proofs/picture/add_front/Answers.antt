use Rattle.std.proofs.Common.{◌≡◌, ◌∙◌, ◌+◌, ◌++◌, ◌∷◌, [], ap}
use Rattle.plan_picture.specs.Fixed.{grid_patterns, style}
use Rattle.plan_picture.specs.Picture.{open_line}
use Rattle.plan_picture.specs.Strips.{strip_top}
use Rattle.plan_picture.specs.declared.layout.TheConstants.{LEFT, DAY_WIDTH}
use Rattle.shortage_picture.specs.Fixed.{brought_style}
use Rattle.shortage_picture.specs.Picture.{title_line}
use Rattle.shortage_picture.proofs.LaneLemmas.{five_lines}
use Rattle.shortage_picture.proofs.picture.add_front.Goals as goal

-- the lines one after the other
pub returns : goal.returns
returns c =
    let opened : c.push.new.self.items ≡ c.args.lines.now.items ++ open_line (LEFT + DAY_WIDTH) (strip_top c.args.height c.args.days) ∷ [] =
    c.in_ok-push.ensures.items ∙ ap (λ z. c.args.lines.now.items ++ z ∷ []) (c.in_ok-open_line.ensures ∙ ap (λ h. open_line (LEFT + DAY_WIDTH) h) c.strip_top.ensures.value) in
    let styled : c.push-2.new.self.items ≡ c.push.new.self.items ++ style ∷ [] =
    c.in_ok-push-2.ensures.items ∙ ap (λ z. c.push.new.self.items ++ z ∷ []) (c.in_ok-fixed_line.ensures ∙ c.style.ensures) in
    let coloured : c.push-3.new.self.items ≡ c.push-2.new.self.items ++ brought_style ∷ [] =
    c.in_ok-push-3.ensures.items ∙ ap (λ z. c.push-2.new.self.items ++ z ∷ []) (c.in_ok-fixed_line-2.ensures ∙ c.brought_style.ensures) in
    let patterned : c.push-4.new.self.items ≡ c.push-3.new.self.items ++ grid_patterns ∷ [] =
    c.in_ok-push-4.ensures.items ∙ ap (λ z. c.push-3.new.self.items ++ z ∷ []) (c.in_ok-fixed_line-3.ensures ∙ c.grid_patterns.ensures) in
    let titled : c.push-5.new.self.items ≡ c.push-4.new.self.items ++ title_line c.args.told.now ∷ [] =
    c.in_ok-push-5.ensures.items ∙ ap (λ z. c.push-4.new.self.items ++ z ∷ []) c.in_ok-title_line.ensures in
    five_lines c.args.lines.now.items c.push.new.self.items c.push-2.new.self.items c.push-3.new.self.items c.push-4.new.self.items c.push-5.new.self.items _ _ _ _ _ opened styled coloured patterned titled
