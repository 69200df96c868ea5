use Rattle.plan_picture.proofs.Shades.{window_shaded}
use Rattle.plan_picture.proofs.laws.pieces_shade_curfews.Goals as goal

pub returns : goal.returns
returns c = window_shaded
