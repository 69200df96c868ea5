use Rattle.fee_pricing.proofs.Families.{least}
use Rattle.fee_pricing.proofs.FamilyBound.{family_bound}
use Rattle.fee_pricing.proofs.laws.least_ends_are_least.Goals as goal

pub returns : goal.returns
returns c = λ arc book marks k store end sound_book hk sound nodes.
    least store sound arc book marks k nodes
    (family_bound c.each_at_most_itself.ensures c.each_at_most_chains.ensures c.steps_keep_order.ensures c.lower_stays_within.ensures arc book marks k)
    c.fits_is_usable_to_its_end.ensures end sound_book hk
