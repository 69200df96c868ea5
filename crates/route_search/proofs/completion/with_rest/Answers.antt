use Rattle.std.proofs.Common.{ℤ, ◌+ℤ◌, w64, to_z, of_z, FitsSigned, rules, ap, sym, subst, ◌∙◌}
use Rattle.std.proofs.lemmas.Int.{to_z-of_z}
use Rattle.branch_marks.specs.Weights.{arc_weight}
use Rattle.pricing.specs.inside.WeightRange.{IsSmall}
use Rattle.route_search.proofs.Completions.{through_is_small, is_way}
use Rattle.route_search.proofs.completion.with_rest.Goals as goal

-- some rest attains the sum, and a rest weighs little
pub sum-least-requires : goal.sum-least-requires
sum-least-requires c =
    let arc = c.arc_weight-arc.result in
    let fits : FitsSigned w64 arc = search rules in
    let small = through_is_small c.args.task.now.table.now c.args.task.now.book.now c.args.task.now.marks.now.facts c.args.task.now.k c.args.task.now.duals.now.values
    c.fitting_rests_are_small.ensures c.every_task_is_sound.ensures.book c.every_task_is_sound.ensures.table c.requires.task.table c.requires.task.duals
    c.args.from c.args.b c.args.rest c.requires.usable c.requires.rest in
    subst (λ (w : ℤ). IsSmall (w +ℤ to_z w64 (of_z w64 c.args.rest))) (sym (to_z-of_z w64 arc fits ∙ c.arc_weight-arc.ensures.value))
    (subst (λ (w : ℤ). IsSmall (arc_weight c.args.task.now.table.now c.args.task.now.book.now c.args.task.now.k c.args.task.now.duals.now.values c.args.from c.args.b +ℤ w))
    (sym (to_z-of_z w64 c.args.rest c.ranges.rest)) small)

-- and with what the link adds it is the least
pub returns-clause-way : goal.returns-clause-way
returns-clause-way c =
    let arc = c.arc_weight-arc.result in
    let least = c.sum-least.result in
    let fits : FitsSigned w64 arc = search rules in
    let least_fits : FitsSigned w64 least = search rules in
    is_way c.args.task.now.table.now c.args.task.now.book.now c.args.task.now.marks.now.facts c.args.task.now.k c.args.task.now.duals.now.values
    c.args.from c.args.b c.args.rest (to_z w64 (of_z w64 arc)) (to_z w64 (of_z w64 least)) c.requires.usable c.requires.rest
    (to_z-of_z w64 arc fits ∙ c.arc_weight-arc.ensures.value)
    (to_z-of_z w64 least least_fits ∙ c.sum-least.ensures ∙ ap (λ (w : ℤ). to_z w64 (of_z w64 arc) +ℤ w) (to_z-of_z w64 c.args.rest c.ranges.rest))

pub returns-clause-small : goal.returns-clause-small
returns-clause-small c =
    let arc = c.arc_weight-arc.result in
    let least = c.sum-least.result in
    let fits : FitsSigned w64 arc = search rules in
    let least_fits : FitsSigned w64 least = search rules in
    let small = through_is_small c.args.task.now.table.now c.args.task.now.book.now c.args.task.now.marks.now.facts c.args.task.now.k c.args.task.now.duals.now.values
    c.fitting_rests_are_small.ensures c.every_task_is_sound.ensures.book c.every_task_is_sound.ensures.table c.requires.task.table c.requires.task.duals
    c.args.from c.args.b c.args.rest c.requires.usable c.requires.rest in
    subst IsSmall (sym (to_z-of_z w64 least least_fits ∙ c.sum-least.ensures
    ∙ ap (λ (w : ℤ). w +ℤ to_z w64 (of_z w64 c.args.rest)) (to_z-of_z w64 arc fits ∙ c.arc_weight-arc.ensures.value)
    ∙ ap (λ (w : ℤ). arc_weight c.args.task.now.table.now c.args.task.now.book.now c.args.task.now.k c.args.task.now.duals.now.values c.args.from c.args.b +ℤ w)
    (to_z-of_z w64 c.args.rest c.ranges.rest))) small
