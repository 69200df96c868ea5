use Rattle.quota_node.proofs.Holes.{untold_hole}
use Rattle.quota_node.proofs.node.quota_node_with.Goals as goal

-- there is no hole
pub settle_node-requires-clause-somebody : goal.settle_node-requires-clause-somebody
settle_node-requires-clause-somebody c =
    untold_hole c.args.book.now c.shut.new.marks.facts c.in_ok-closed.closed c.in_default-closed.not-Hole c.in_ok-closed.ensures.closed
