use Rattle.node_leaves.proofs.SpelledLabels.{labels_spelled}
use Rattle.node_leaves.proofs.laws.priced_labels_are_spelled.Goals as goal

pub returns : goal.returns
returns c = λ table book sound costs for_book marks k duals store less in_box is priced.
    labels_spelled table book sound costs for_book c.legal_routes_rise.ensures c.reduced_costs_are_small.ensures c.links_leave_time.ensures marks k duals store less in_box is priced
