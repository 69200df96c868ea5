use Rattle.std.proofs.Common.{refl}
use Rattle.restricted_master.specs.inside.Hash.{mixed}
use Rattle.restricted_master.proofs.hashing.mixed.Goals as goal

pub returns : goal.returns
unfolding mixed
returns c = refl
