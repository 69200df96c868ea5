use Rattle.pricing.proofs.Families.{least}
use Rattle.pricing.proofs.laws.least_ends_are_least.Goals as goal

pub returns : goal.returns
returns c = λ table book marks k duals store end sound_book hk sound nodes.
    least store sound table book marks k duals nodes c.closed_families_bound.ensures c.fits_is_usable_to_its_end.ensures end sound_book hk
