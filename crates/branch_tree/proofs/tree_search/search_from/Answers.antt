use Rattle.std.proofs.Common.{◌≡◌, List, [], ◌∷◌, sym, subst}
use Rattle.branch_marks.specs.declared.event.Event.{Event}
use Rattle.branch_marks.specs.TreeLog.{Notes}
use Rattle.node_leaves.specs.declared.best.Best.{Best}
use Rattle.branch_tree.specs.Counted.{IsCounted}
use Rattle.node_leaves.specs.Node.{IsShownNode}
use Rattle.node_leaves.specs.NodeEvents.{events_of}
use Rattle.node_leaves.specs.Place.{root}
use Rattle.branch_tree.specs.inside.OpenPlaces.{places_of}
use Rattle.branch_tree.specs.inside.SearchParts.{outcome_for}
use Rattle.node_leaves.proofs.Cuts.{notes_then}
use Rattle.branch_tree.proofs.LeastLeft.{ends_under, search_tree}
use Rattle.node_leaves.proofs.Runs.{grows_weaker, events_then}
use Rattle.branch_tree.proofs.Starts.{outcome_within}
use Rattle.branch_tree.proofs.Stopping.{stops_first, stops_then}
use Rattle.branch_tree.proofs.tree_search.search_from.Goals as goal

-- nothing was told
pub returns-in-Err-clause-stopped : goal.returns-in-Err-clause-stopped
returns-in-Err-clause-stopped g c = stops_first c.args.table.now c.args.book.now (g.L.TreeLog.shows c.args.log.now) (root c.args.book.now ∷ [])

-- while places were closed
pub returns-in-Err-close-clause-stopped : goal.returns-in-Err-close-clause-stopped
returns-in-Err-close-clause-stopped g c =
    let run = c.in-Ok-grow.ensures.grown.run in let table = c.args.table.now in let book = c.args.book.now in
    let old = g.L.TreeLog.shows c.args.log.now in let between = g.L.TreeLog.shows c.grow.new.log in let new = g.L.TreeLog.shows c.close.new.log in
    let shown = grows_weaker (IsCounted table book) (IsShownNode table book) (λ here node h. h.shown) (root book ∷ []) run.counted (places_of c.grow.new.state.places) run.grown in
    stops_then table book old between new (root book ∷ []) run.counted (places_of c.grow.new.state.places) c.in-Err-close.ensures.later shown run.told c.in-Err-close.ensures.stopped

-- the tree of the two passes
pub returns-in-Ok-close-clause-tree : goal.returns-in-Ok-close-clause-tree
returns-in-Ok-close-clause-tree g c =
    let grown = c.in-Ok-grow.ensures.grown in let run = grown.run in let closed = c.in-Ok-close.ensures.closed in
    let table = c.args.table.now in let book = c.args.book.now in let best = c.grow.new.state.best in
    let old = g.L.TreeLog.shows c.args.log.now in let between = g.L.TreeLog.shows c.grow.new.log in let new = g.L.TreeLog.shows c.close.new.log in
    let same = subst (λ (b : Best). c.outcome_of.result ≡ outcome_for b.plan b.target c.in-Ok-close.low c.in-Ok-grow.counter) c.close.ensures.best c.outcome_of.ensures in
    let told = notes_then old between new (events_of run.counted) (events_of closed.closing) c.in-Ok-close.ensures.later run.told closed.told in
    record {
      tree = record { counted = run.counted; closing = closed.closing };
      is = search_tree table book c.args.limit run.counted closed.closing (places_of c.grow.new.state.places) best.target c.in-Ok-grow.counter run.counts grown.reached closed.closed
          best.plan c.in-Ok-close.low c.outcome_of.result same run.grown run.falls c.in-Ok-grow.ensures.state.best closed.lowest;
      told = subst (λ (due : List Event). Notes old new due) (sym (events_then run.counted closed.closing)) told;
    }

pub returns-in-Ok-close-clause-truth : goal.returns-in-Ok-close-clause-truth
returns-in-Ok-close-clause-truth g c =
    let tree = returns-in-Ok-close-clause-tree g c in
    c.search_trees_are_true.ensures c.args.table.now c.args.book.now c.every_book_is_sound.ensures c.every_cost_table_is_sound.ensures c.requires.table c.args.limit c.outcome_of.result tree.tree tree.is

pub returns-in-Ok-close-clause-ends : goal.returns-in-Ok-close-clause-ends
returns-in-Ok-close-clause-ends g c =
    let tree = returns-in-Ok-close-clause-tree g c in
    ends_under c.args.table.now c.args.book.now c.args.limit _ tree.tree.closing tree.is.final c.outcome_of.result tree.is.answered

-- targets fell from what the start costs at most
pub returns-in-Ok-close-clause-within : goal.returns-in-Ok-close-clause-within
returns-in-Ok-close-clause-within g c =
    let table = c.args.table.now in let book = c.args.book.now in let best = c.grow.new.state.best in
    let low = c.in-Ok-close.low in let counter = c.in-Ok-grow.counter in
    let same = subst (λ (b : Best). c.outcome_of.result ≡ outcome_for b.plan b.target low counter) c.close.ensures.best c.outcome_of.ensures in
    outcome_within table book c.every_book_is_sound.ensures c.every_cost_table_is_sound.ensures c.requires.table c.legal_plans_cost_at_most_in.ensures
    (λ plan. plan.now) best.plan best.target c.in-Ok.state.best.target c.grow.ensures.falls low counter c.outcome_of.result same
    c.in-Ok-grow.ensures.state.best c.args.start c.requires.legal c.in-Ok.ensures.within
