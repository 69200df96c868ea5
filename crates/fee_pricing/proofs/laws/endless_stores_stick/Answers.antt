use Rattle.fee_pricing.proofs.Families.{stuck}
use Rattle.fee_pricing.proofs.FamilyBound.{family_bound}
use Rattle.fee_pricing.proofs.laws.endless_stores_stick.Goals as goal

pub returns : goal.returns
returns c = λ arc book marks k store sound nodes.
    stuck store sound arc book marks k nodes
    (family_bound c.each_at_most_itself.ensures c.each_at_most_chains.ensures c.steps_keep_order.ensures c.lower_stays_within.ensures arc book marks k)
