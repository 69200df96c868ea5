use Rattle.node_leaves.proofs.PricedLabels.{low_ends}
use Rattle.node_leaves.proofs.laws.priced_ends_are_low.Goals as goal

pub returns : goal.returns
returns c = λ table book marks k duals store low sound priced least.
    low_ends store sound table book marks k duals priced c.fits_is_usable_to_its_end.ensures c.place_with_one_more.ensures low least
