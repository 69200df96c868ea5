use Rattle.plan_picture.proofs.Clocks.{clocks_kept}
use Rattle.plan_picture.proofs.laws.stretches_keep_clocks.Goals as goal

pub returns : goal.returns
returns c = clocks_kept
