use Rattle.std.proofs.Common.{rules, ◌≡◌, ◌∙◌, ℤ, List, ap, subst, sym, refl, to_z, of_z}
use Rattle.std.specs.Int.{w128}
use Rattle.std.proofs.lemmas.Int.{to_z-of_z}
use Rattle.branch_marks.specs.Bound.{AreLeastWeights, lagrangian}
use Rattle.node_leaves.specs.declared.node_pricer.PricedAll.{PricedAll}
use Rattle.node_leaves.specs.Node.{Stuck, Bounded}
use Rattle.node_leaves.specs.inside.Leaf.{ArePrices}
use Rattle.node_leaves.proofs.Cuts.{front_whole, notes_none}
use Rattle.node_leaves.proofs.LeafStops.{leaf_stops, untold_stops}
use Rattle.node_leaves.proofs.leaf.price_leaf.Goals as goal

-- nothing was told
pub returns-in-Err-clause-stopped : goal.returns-in-Err-clause-stopped
returns-in-Err-clause-stopped g c =
    let log = g.L.TreeLog.shows c.args.log.now in
    untold_stops c.args.table.now c.args.book.now (record { marks = c.args.marks.now.facts; duals = c.args.duals.now.values }) log log (front_whole log log _ (notes_none log))

pub returns-in-Err-note_stuck-clause-stopped : goal.returns-in-Err-note_stuck-clause-stopped
returns-in-Err-note_stuck-clause-stopped g c =
    leaf_stops c.args.table.now c.args.book.now (record { marks = c.args.marks.now.facts; duals = c.args.duals.now.values })
    (g.L.TreeLog.shows c.args.log.now) (g.L.TreeLog.shows c.note_stuck.new.log) c.in-Err-note_stuck.ensures.cut

pub returns-in-Err-note_bounded-clause-stopped : goal.returns-in-Err-note_bounded-clause-stopped
returns-in-Err-note_bounded-clause-stopped g c =
    leaf_stops c.args.table.now c.args.book.now (record { marks = c.args.marks.now.facts; duals = c.args.duals.now.values })
    (g.L.TreeLog.shows c.args.log.now) (g.L.TreeLog.shows c.note_bounded.new.log) c.in-Err-note_bounded.ensures.cut

-- the stuck aircraft and its family
pub returns-in-Stuck-clause-priced : goal.returns-in-Stuck-clause-priced
returns-in-Stuck-clause-priced g c =
    let noted = c.in_default.ensures.noted in
    record { ending = Stuck c.in-Stuck.k noted.0; shown = noted.1; priced = tt; answers = tt; told = noted.2 }

-- the bound with its covers
pub returns-clause-priced : goal.returns-clause-priced
returns-clause-priced g c =
    let noted = c.in_default-note_bounded.ensures.noted in
    let values : c.deref-in-Least.result.now ≡ c.in-Least.values.items = c.deref-in-Least.ensures.value in
    let given : c.deref.result.now ≡ c.in-Least.values.items = c.deref.ensures.value in
    let least = λ (vs : List ℤ). AreLeastWeights c.args.table.now c.args.book.now c.args.marks.now.facts c.args.duals.now.values vs in
    let all = subst (λ (p : PricedAll). ArePrices c.args.table.now c.args.book.now c.args.marks.now.facts c.args.duals.now.values p) c.in-Least.is c.in-Ok.ensures.prices in
    let prices : least c.in-Least.values.items = all.0 in
    let sum : to_z w128 (of_z w128 c.lagrangian_of.result) ≡ c.lagrangian_of.result = to_z-of_z w128 c.lagrangian_of.result (search rules) in
    record {
      ending = Bounded c.args.duals.now.values noted.covers;
      shown = noted.shown;
      priced = (refl, subst (λ (vs : List ℤ). least vs) (sym (noted.least ∙ given)) prices);
      answers = sum ∙ c.lagrangian_of.ensures ∙ ap (λ (vs : List ℤ). lagrangian c.args.duals.now.values vs) (values ∙ sym given ∙ sym noted.least);
      told = noted.told;
    }
