use Rattle.node_leaves.proofs.PricedLabels.{no_ends}
use Rattle.node_leaves.proofs.laws.stuck_have_no_end.Goals as goal

pub returns : goal.returns
returns c = λ table book marks k duals store sound priced stuck.
    no_ends store sound table book marks k duals priced c.fits_is_usable_to_its_end.ensures c.place_with_one_more.ensures stuck
