use Rattle.std.proofs.Common.{refl}
use Rattle.plan_picture.proofs.curfews.band_line.Goals as goal

-- the line is its pieces
pub returns : goal.returns
returns c = rw (c.in_ok-text.ensures.ok, c.in_ok-add_area.ensures, c.in_ok-add_piece.ensures, c.in_ok-line.ensures) refl
