use Rattle.branch_tree.specs.inside.OpenPlaces.{place_here}
use Rattle.branch_tree.proofs.OneMore.{closing_of}
use Rattle.branch_tree.proofs.second_pass.close_one.Goals as goal

pub returns-clause-closed : goal.returns-clause-closed
returns-clause-closed g c =
    closing_of c.args.table.now c.args.book.now (place_here c.args.state.now.places) (g.L.TreeLog.shows c.args.log.now) (g.L.TreeLog.shows c.price_leaf.new.log)
    c.args.target c.args.low c.lower.result c.in-Ok.priced c.in-Ok.ensures.priced c.lower.ensures
