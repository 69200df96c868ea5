use Rattle.pricing.proofs.Families.{stuck}
use Rattle.pricing.proofs.laws.endless_stores_stick.Goals as goal

pub returns : goal.returns
returns c = λ table book marks k duals store sound nodes.
    stuck store sound table book marks k duals nodes c.endless_families_stick.ensures
