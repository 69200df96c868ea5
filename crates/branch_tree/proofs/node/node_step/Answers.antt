use Rattle.node_leaves.proofs.Cuts.{front_whole, notes_none}
use Rattle.node_leaves.proofs.LeafStops.{untold_stops}
use Rattle.branch_tree.proofs.node.node_step.Goals as goal

-- nothing was told
pub returns-in-Err-clause-stopped : goal.returns-in-Err-clause-stopped
returns-in-Err-clause-stopped g c =
    let log = g.L.TreeLog.shows c.args.log.now in
    untold_stops c.args.table.now c.args.book.now (record { marks = c.args.marks.now.facts; duals = c.args.duals.now.values }) log log (front_whole log log _ (notes_none log))

-- new tools are right for whatever marks
pub node_step_with-requires-clause-tools : goal.node_step_with-requires-clause-tools
node_step_with-requires-clause-tools g c = record {
  prices = record { links = c.requires.net; facts = c.requires.marks; pricer = c.in-Ok.ensures.prices };
  diver = c.in-Ok.ensures.diver c.args.marks.now.facts;
}
