use Rattle.std.proofs.Common.{[], ◌∷◌, List, subst, sym}
use Rattle.node_leaves.specs.Place.{root}
use Rattle.branch_tree.proofs.LeastLeft.{ends_under}
use Rattle.branch_tree.proofs.Stopping.{stops_first}
use Rattle.best_first.specs.declared.links.Link.{Link}
use Rattle.best_first.specs.declared.slots.Slot.{Slot}
use Rattle.best_first.specs.BestTree.{closing_of, count_in}
use Rattle.best_first.specs.inside.Links.{AreLinks}
use Rattle.best_first.specs.inside.Tellings.{AreTold}
use Rattle.best_first.proofs.TreesTold.{best_searched}
use Rattle.best_first.proofs.best_search.search_best.Goals as goal

-- nothing was told
pub returns-in-Err-clause-stopped : goal.returns-in-Err-clause-stopped
returns-in-Err-clause-stopped g c = stops_first c.args.table.now c.args.book.now (g.L.TreeLog.shows c.args.log.now) (root c.args.book.now ∷ [])

pub returns-in_default-clause-stopped : goal.returns-in_default-clause-stopped
returns-in_default-clause-stopped g c = stops_first c.args.table.now c.args.book.now (g.L.TreeLog.shows c.args.log.now) (root c.args.book.now ∷ [])

pub tell_tree-told-requires-clause-ready : goal.tell_tree-told-requires-clause-ready
tell_tree-told-requires-clause-ready g c =
    let is = c.in-Ok-grow.ensures.state in
    record { links = is.net; facts = is.marks; pricer = is.prices }

pub tell_tree-told-requires-clause-links : goal.tell_tree-told-requires-clause-links
tell_tree-told-requires-clause-links g c =
    let are = c.in-Ok-grow.ensures.slots in
    subst (λ (l : List Link). AreLinks l) (sym c.deref.ensures.value) are.chained

-- the tree of the slots
pub returns-in-Ok-told-clause-tree : goal.returns-in-Ok-told-clause-tree
returns-in-Ok-told-clause-tree g c =
    let table = c.args.table.now in let book = c.args.book.now in let limit = c.args.limit in let state = c.grow.new.state in
    let final = state.best.target in let low = c.in-Ok-told.low in
    let old = g.L.TreeLog.shows c.args.log.now in let new = g.L.TreeLog.shows c.tell_tree-told.new.log in
    let grown = c.in-Ok-grow.ensures in
    let told = subst (λ (s : List Slot). AreTold table book final s low old new) c.deref-2.ensures.value c.in-Ok-told.ensures.told in
    best_searched table book limit state.links.items state.slots.items state.count final grown.slots grown.within grown.out low old new told state.best.plan
    c.outcome_of.result c.outcome_of.ensures grown.state.best

pub returns-in-Ok-told-clause-truth : goal.returns-in-Ok-told-clause-truth
returns-in-Ok-told-clause-truth g c =
    let tree = returns-in-Ok-told-clause-tree g c in
    c.best_trees_are_true.ensures c.args.table.now c.args.book.now c.every_book_is_sound.ensures c.every_cost_table_is_sound.ensures c.requires.table
    c.args.limit c.outcome_of.result tree.tree tree.is

pub returns-in-Ok-told-clause-ends : goal.returns-in-Ok-told-clause-ends
returns-in-Ok-told-clause-ends g c =
    let tree = returns-in-Ok-told-clause-tree g c in
    ends_under c.args.table.now c.args.book.now c.args.limit (count_in tree.tree) (closing_of tree.tree) tree.is.final c.outcome_of.result tree.is.answered
