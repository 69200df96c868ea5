use Rattle.std.proofs.Common.{IfOk, subst, sym}
use Rattle.certified_search.specs.OrderedTree.{IsSearchedIn}
use Rattle.certified_search.specs.declared.order.Order.{Order}
use Rattle.certified_search.proofs.TreesFound.{by_least_bound, depth_first}
use Rattle.certified_search.proofs.ordered.search_in_order.Goals as goal

-- its tree is a search tree
pub returns-in-DepthFirst-clause-tree : goal.returns-in-DepthFirst-clause-tree
returns-in-DepthFirst-clause-tree g c =
    let table = c.args.table.now in let book = c.args.book.now in
    let old = g.L.TreeLog.shows c.args.log.now in let new = g.L.TreeLog.shows c.search.new.log in
    let found = depth_first table book c.args.limit old new c.search.result c.search.ensures.tree in
    subst (λ (order : Order). IfOk c.search.result (IsSearchedIn order table book c.args.limit old new)) (sym c.in-DepthFirst.is) found

-- its tree is a best-first tree
pub returns-in-LeastBound-clause-tree : goal.returns-in-LeastBound-clause-tree
returns-in-LeastBound-clause-tree g c =
    let table = c.args.table.now in let book = c.args.book.now in
    let old = g.L.TreeLog.shows c.args.log.now in let new = g.L.TreeLog.shows c.search_best.new.log in
    let found = by_least_bound table book c.args.limit old new c.search_best.result c.search_best.ensures.tree in
    subst (λ (order : Order). IfOk c.search_best.result (IsSearchedIn order table book c.args.limit old new)) (sym c.in-LeastBound.is) found
