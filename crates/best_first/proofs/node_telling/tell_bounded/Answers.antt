use Rattle.std.proofs.Common.{◌≡◌, ℤ, List, sym, subst}
use Rattle.branch_marks.specs.Bound.{AreLeastWeights}
use Rattle.node_leaves.specs.declared.node_pricer.PricedAll.{PricedAll}
use Rattle.node_leaves.specs.inside.Leaf.{ArePrices}
use Rattle.best_first.proofs.EndsTold.{bounded_told, stuck_bounded}
use Rattle.best_first.proofs.node_telling.tell_bounded.Goals as goal

-- the stuck aircraft and its family
pub returns-in-Stuck-clause-told : goal.returns-in-Stuck-clause-told
returns-in-Stuck-clause-told g c = λ target kept.
    stuck_bounded c.args.table.now c.args.book.now c.args.marks.now.facts c.args.duals.now.values target (g.L.TreeLog.shows c.args.log.now)
    (g.L.TreeLog.shows c.note_stuck.new.log) c.in-Stuck.k c.in_default.ensures.noted

-- the bound with its covers
pub returns-clause-told : goal.returns-clause-told
returns-clause-told g c = λ target kept.
    let table = c.args.table.now in let book = c.args.book.now in let marks = c.args.marks.now.facts in let duals = c.args.duals.now.values in
    let given : c.deref.result.now ≡ c.in-Least.values.items = c.deref.ensures.value in
    let all = subst (λ (p : PricedAll). ArePrices table book marks duals p) c.in-Least.is c.in-Ok.ensures.prices in
    let least : AreLeastWeights table book marks duals c.in-Least.values.items = all.0 in
    bounded_told table book marks duals target (g.L.TreeLog.shows c.args.log.now) (g.L.TreeLog.shows c.note_bounded.new.log) c.sums_never_fall.ensures
    c.deref.result.now (subst (λ (vs : List ℤ). AreLeastWeights table book marks duals vs) (sym given) least) kept c.in_default-note_bounded.ensures.noted
