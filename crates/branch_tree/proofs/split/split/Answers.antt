use Rattle.std.proofs.Common.{◌≡◌, ◌∙◌, ℕ, ℤ, pos, List, rules, refl, ap, sym, subst, to_z, of_z}
use Rattle.std.proofs.lemmas.Int.{to_z-of_z}
use Rattle.std.specs.Int.{w128}
use Rattle.branch_marks.specs.Bound.{bound_of, Passes}
use Rattle.branch_marks.specs.Branches.{IsUndecided}
use Rattle.dive_heuristic.specs.LeastRoutes.{AreRoutesOfFleet, IsEachInOne}
use Rattle.branch_tree.specs.Counted.{IsSplitOf}
use Rattle.branch_tree.specs.Step.{IsTrueSplit}
use Rattle.branch_tree.proofs.UsedPlans.{least_routes, plan_passes}
use Rattle.branch_tree.proofs.split.split.Goals as goal

pub chosen_pair-requires-clause-fitting : goal.chosen_pair-requires-clause-fitting
chosen_pair-requires-clause-fitting c =
    let table = c.args.table.now in let book = c.args.book.now in let marks = c.args.marks.now.facts in let duals = c.args.duals.now.values in
    subst (λ (rs : List (List ℕ)). AreRoutesOfFleet book marks rs) (sym c.deref.ensures.value)
    (c.least_routes_fit.ensures table book marks duals c.args.found.routes.items
    (least_routes table book marks duals c.args.found.values.items c.args.found.routes.items c.requires.found.least c.requires.found.attained))

-- the routes are a plan, which the target is at most the cost of
pub returns-in_default-clause-end : goal.returns-in_default-clause-end
returns-in_default-clause-end c =
    let table = c.args.table.now in let book = c.args.book.now in let marks = c.args.marks.now.facts in let duals = c.args.duals.now.values in
    let each = subst (λ (rs : List (List ℕ)). IsEachInOne book rs) c.deref.ensures.value c.in_default.ensures.none in (
      c.requires.found.least,
      plan_passes c.routes_of_weights_are_plan.ensures table book marks duals c.args.found.values.items c.args.found.routes.items c.args.best.now.target
          c.requires.settled.in_box.one_each c.requires.found.attained each c.requires.found.used,
    )

-- the bound that is told is that of the sum, which leaves room below the target that the dive left
pub returns-clause-end : goal.returns-clause-end
returns-clause-end c =
    let table = c.args.table.now in let book = c.args.book.now in let marks = c.args.marks.now.facts in let duals = c.args.duals.now.values in
    let values = c.args.found.values.items in let routes = c.args.found.routes.items in let sum = c.args.found.sum in
    let target = c.dive_and_use.new.best.target in let pair = c.in-Some.pair in let dive = c.in_ok-dive.dive in
    let room : ¬ Passes (bound_of sum) target = search rules in
    let undecided : IsUndecided book marks pair = search rules in
    let split : IsSplitOf table book marks target pair duals routes dive = record {
      settled = c.requires.settled;
      values = values;
      least = c.requires.found.least;
      attained = c.requires.found.attained;
      below = subst (λ (z : ℤ). ¬ Passes (bound_of z) target) c.requires.found.sum room;
      chosen = search rules;
      dived = search rules;
      planned = search rules;
      used = search rules;
    } in
    let stored : to_z w128 (of_z w128 c.bound_from.result) ≡ c.bound_from.result = to_z-of_z w128 c.bound_from.result (search rules) in
    let handed : to_z w128 (of_z w128 sum) ≡ sum = to_z-of_z w128 sum (search rules) in
    let told : to_z w128 (of_z w128 c.bound_from.result) ≡ pos (bound_of sum) = stored ∙ c.bound_from.ensures ∙ ap (λ (z : ℤ). pos (bound_of z)) handed in
    subst (λ (bound : ℤ). IsTrueSplit table book marks duals target pair bound routes dive) (sym told)
    (record { split = split; bounds = (sum, (values, c.requires.found.least, c.requires.found.sum), refl); below = room; undecided = undecided })
