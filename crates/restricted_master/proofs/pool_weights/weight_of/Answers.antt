use Rattle.std.proofs.Common.{◌≡◌, ◌∙◌, ℕ, List, ap, sym, subst, arith, get_or, []}
use Rattle.std.proofs.lemmas.Int.{ints}
use Rattle.std.proofs.lemmas.List.{get_or-map}
use Rattle.branch_marks.specs.Weights.{duals_on}
use Rattle.restricted_master.specs.Pool.{entry_at, entry_cost}
use Rattle.restricted_master.specs.inside.Choices.{IsSmall}
use Rattle.restricted_master.proofs.pool_weights.weight_of.Goals as goal

-- the cost is kept, and the weight is small
pub returns-clause-value : goal.returns-clause-value
returns-clause-value c =
    let small = c.entries_are_small.ensures _ _ _ _ c.every_cost_table_is_sound.ensures c.requires.table c.requires.pool c.requires.duals c.args.i c.requires.route in
    let cost : c.cost.result ≡ entry_cost c.args.table.now c.args.book.now (entry_at c.args.pool.now c.args.i) =
    c.cost.ensures ∙ ap (λ (cs : List ℕ). get_or cs c.args.i 0) c.requires.pool.costs
    ∙ get_or-map (entry_cost c.args.table.now c.args.book.now) c.args.pool.now.entries c.args.i (record { aircraft = 0; route = [] }) 0 c.requires.route in
    let sum = c.duals_on.ensures.value ∙ ap (duals_on c.args.duals.now) c.route.ensures in
    let range = c.duals_on.ensures.range in
    omega (arith, ints, small, cost, sum, range, c.cost.type_inv, c.duals_on.type_inv)

pub returns-clause-small : goal.returns-clause-small
returns-clause-small c =
    subst IsSmall (sym (returns-clause-value c))
    (c.entries_are_small.ensures _ _ _ _ c.every_cost_table_is_sound.ensures c.requires.table c.requires.pool c.requires.duals c.args.i c.requires.route)
