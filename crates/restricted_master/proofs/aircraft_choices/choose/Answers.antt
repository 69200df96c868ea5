use Rattle.std.proofs.Common.{◌≡◌, ◌<◌, ◌∙◌, sym, subst, arith, ℕ, ℤ, List, length, w64, to_z, of_z, pos}
use Rattle.std.proofs.lemmas.Int.{ints}
use Rattle.std.specs.Prelude.{All}
use Rattle.branch_marks.specs.Weights.{dual}
use Rattle.restricted_master.specs.Lists.{list_at}
use Rattle.restricted_master.specs.inside.Choices.{choice_at, IsSmall}
use Rattle.restricted_master.specs.inside.Least.{IsChoiceOf}
use Rattle.restricted_master.proofs.Chosen.{chosen, choice_small, least_in_list, with_all, with_small, own_all}
use Rattle.restricted_master.proofs.aircraft_choices.choose.Goals as goal

-- the numbers in the lists are of the pool
pub add_with-requires-clause-numbers : goal.add_with-requires-clause-numbers
add_with-requires-clause-numbers c =
    subst (λ (xs : List ℕ). All (λ i. i < length c.args.pool.now.entries) xs) (sym c.with.ensures) (with_all _ _ _ _ _ _ _ c.args.a c.requires.weighed c.requires.activity)

pub complete-requires-clause-numbers : goal.complete-requires-clause-numbers
complete-requires-clause-numbers c = λ k lt. own_all _ _ _ _ k c.requires.weighed.lists_of (omega (arith, lt, c.requires.choices, c.start.auto.choices, c.add_with.auto.choices))

-- all weights are small
pub complete-requires-clause-with : goal.complete-requires-clause-with
complete-requires-clause-with c = λ k lt.
    let small = c.weights_are_small.ensures _ _ _ _ _ _ _ c.every_cost_table_is_sound.ensures c.requires.weighed in
    let here : c.args.a < length c.args.duals.now = omega (arith, c.requires.activity, c.requires.weighed.duals_of.one_each) in
    let dual_small = small.2 c.args.a (pos 0) here in
    let read : to_z w64 (of_z w64 (dual c.args.duals.now c.args.a)) ≡ dual c.args.duals.now c.args.a = omega (arith, ints, dual_small) in
    with_small c.args.pool.now c.args.weights.now _ _ k _ c.requires.weighed.weights_of.each small.0 (subst IsSmall (sym read) dual_small)
    (subst (λ (xs : List ℕ). All (λ i. i < length c.args.pool.now.entries) xs) (sym c.with.ensures) (with_all _ _ _ _ _ _ _ c.args.a c.requires.weighed c.requires.activity))
    (c.add_with.ensures.least k lt)

-- so each choice is that of its aircraft
pub returns-clause-chosen : goal.returns-clause-chosen
returns-clause-chosen c = λ k lt.
    let small = c.weights_are_small.ensures _ _ _ _ _ _ _ c.every_cost_table_is_sound.ensures c.requires.weighed in
    let here : c.args.a < length c.args.duals.now = omega (arith, c.requires.activity, c.requires.weighed.duals_of.one_each) in
    let dual_small = small.2 c.args.a (pos 0) here in
    let read : to_z w64 (of_z w64 (dual c.args.duals.now c.args.a)) ≡ dual c.args.duals.now c.args.a = omega (arith, ints, dual_small) in
    let in_start : k < length c.start.new.choices = omega (arith, lt, c.requires.choices, c.start.auto.choices) in
    let in_with : k < length c.add_with.new.choices = omega (arith, lt, c.requires.choices, c.start.auto.choices, c.add_with.auto.choices) in
    let in_all : k < length c.complete.new.choices = omega (arith, lt, c.requires.choices, c.start.auto.choices, c.add_with.auto.choices, c.complete.auto.choices) in
    subst (λ (d : ℤ). IsChoiceOf c.args.pool.now c.args.weights.now c.args.a d k (choice_at c.complete.new.choices k)) read
    (chosen c.least_in_is_least.ensures c.args.table.now c.args.book.now c.args.pool.now c.args.lists.now c.args.duals.now c.args.weights.now c.args.values.now c.args.a k c.requires.weighed c.requires.activity lt
    (to_z w64 (of_z w64 (dual c.args.duals.now c.args.a))) (choice_at c.add_with.new.choices k) (choice_at c.complete.new.choices k)
    (least_in_list c.args.pool.now c.args.weights.now c.with.result.now (list_at c.args.lists.now.by_activity c.args.a) _ k _ c.with.ensures (c.add_with.ensures.least k in_with))
    (c.add_with.ensures.same k in_with ∙ c.start.ensures.without k in_start) (c.complete.ensures k in_all))

pub returns-clause-small : goal.returns-clause-small
returns-clause-small c = λ k lt.
    let small = c.weights_are_small.ensures _ _ _ _ _ _ _ c.every_cost_table_is_sound.ensures c.requires.weighed in
    let here : c.args.a < length c.args.duals.now = omega (arith, c.requires.activity, c.requires.weighed.duals_of.one_each) in
    choice_small c.args.pool.now c.args.weights.now c.args.a (dual c.args.duals.now c.args.a) k (choice_at c.complete.new.choices k)
    c.requires.weighed.weights_of.each small.0 (small.2 c.args.a (pos 0) here) (returns-clause-chosen c k lt)
