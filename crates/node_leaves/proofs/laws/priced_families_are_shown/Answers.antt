use Rattle.node_leaves.proofs.PricedLabels.{shown_family}
use Rattle.node_leaves.proofs.laws.priced_families_are_shown.Goals as goal

pub returns : goal.returns
returns c = λ table book marks k duals store sound priced. shown_family store sound table book marks k duals priced
