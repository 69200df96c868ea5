use Rattle.std.proofs.Common.{◌≡◌, ◌<◌, ◌∙◌, ◌+ℤ◌, ◌≤ℤ◌, ℤ, List, Option, Some, None, w64, to_z, of_z, arith, pos, ap, sym, subst, refl, rules, length}
use Rattle.std.proofs.lemmas.Int.{ints}
use Rattle.tail_book.specs.CostTable.{cost_unit}
use Rattle.branch_marks.specs.Pool.{sum_in}
use Rattle.branch_marks.specs.Weights.{dual}
use Rattle.restricted_master.specs.inside.Choices.{IsBetter}
use Rattle.restricted_master.proofs.PoolSums.{gains, settled_at}
use Rattle.restricted_master.proofs.moving.look_at.Goals as goal

-- no dual of the box gains a cost unit
pub returns-in_default-clause-looked : goal.returns-in_default-clause-looked
returns-in_default-clause-looked c =
    let small = c.weights_are_small.ensures _ _ _ _ _ _ _ c.every_cost_table_is_sound.ensures c.requires.weighed in
    let here : c.args.a < length c.args.duals.now = omega (arith, c.requires.activity, c.requires.weighed.duals_of.one_each) in
    let dual_small = small.2 c.args.a (pos 0) here in
    let read : to_z w64 (of_z w64 (dual c.args.duals.now c.args.a)) ≡ dual c.args.duals.now c.args.a = omega (arith, ints, dual_small) in (
      refl,
      settled_at c.least_in_is_least.ensures c.args.table.now c.args.book.now c.args.pool.now c.args.lists.now c.args.duals.now c.args.weights.now c.args.values.now c.args.a
          c.choose.new.choices c.requires.weighed c.requires.routes c.requires.activity (c.choose.auto.choices ∙ c.requires.each) c.choose.ensures.chosen
          (subst (λ (d : ℤ). IsBetter c.args.table.now c.choose.new.choices d None) read
          (subst (λ (o : Option ℤ). IsBetter c.args.table.now c.choose.new.choices (to_z w64 (of_z w64 (dual c.args.duals.now c.args.a))) o) c.in_default.is c.better_dual.ensures)),
    )

-- the dual moves to one that gains a cost unit
pub returns-clause-looked : goal.returns-clause-looked
returns-clause-looked c =
    let small = c.weights_are_small.ensures _ _ _ _ _ _ _ c.every_cost_table_is_sound.ensures c.requires.weighed in
    let here : c.args.a < length c.args.duals.now = omega (arith, c.requires.activity, c.requires.weighed.duals_of.one_each) in
    let dual_small = small.2 c.args.a (pos 0) here in
    let read : to_z w64 (of_z w64 (dual c.args.duals.now c.args.a)) ≡ dual c.args.duals.now c.args.a = omega (arith, ints, dual_small) in
    let fits : to_z w64 (of_z w64 c.in-Some.best) ≡ c.in-Some.best = search rules in
    subst (λ (us : List ℤ). (sum_in c.args.table.now c.args.book.now c.args.duals.now c.args.pool.now.entries +ℤ pos cost_unit) ≤ℤ sum_in c.args.table.now c.args.book.now us c.args.pool.now.entries)
    (sym c.move_dual.ensures.duals)
    (gains c.least_in_is_least.ensures c.args.table.now c.args.book.now c.args.pool.now c.args.lists.now c.args.duals.now c.args.weights.now c.args.values.now c.args.a
    c.choose.new.choices c.requires.weighed c.requires.routes c.requires.activity (c.choose.auto.choices ∙ c.requires.each) c.choose.ensures.chosen
    (to_z w64 (of_z w64 c.in-Some.best))
    (subst (λ (d : ℤ). IsBetter c.args.table.now c.choose.new.choices d (Some (to_z w64 (of_z w64 c.in-Some.best)))) read
    (subst (λ (o : Option ℤ). IsBetter c.args.table.now c.choose.new.choices (to_z w64 (of_z w64 (dual c.args.duals.now c.args.a))) o)
    (c.in-Some.is ∙ ap Some (sym fits)) c.better_dual.ensures)))
