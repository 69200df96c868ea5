use Rattle.std.proofs.Common.{ℤ, ◌≤ℤ◌, w64, to_z, of_z, FitsSigned, rules, subst}
use Rattle.std.proofs.lemmas.Int.{to_z-of_z}
use Rattle.route_search.specs.inside.ForTask.{IsFoundWithinFor}
use Rattle.route_search.proofs.Bound.{as_far}
use Rattle.route_search.proofs.search.found_nearer.Goals as goal

-- the least weight is known to be within the cut
pub returns-clause-found : goal.returns-clause-found
returns-clause-found c =
    let value = c.in-Best.value in
    let far = c.with_slack-far.result in
    let value_fits : FitsSigned w64 value = search rules in
    let far_fits : FitsSigned w64 far = search rules in
    let first = subst (IsFoundWithinFor c.args.task.now (to_z w64 (of_z w64 c.args.near))) c.in-Best.is c.in_ok-looked.ensures.found in
    as_far c.args.task.now.table.now c.args.task.now.book.now c.args.task.now.marks.now.facts c.args.task.now.k c.args.task.now.duals.now.values
    value far c.args.cut first.0
    (subst (λ (w : ℤ). w ≤ℤ far) (to_z-of_z w64 value value_fits) c.with_slack-far.ensures.least)
    (subst (λ (w : ℤ). far ≤ℤ w) (to_z-of_z w64 c.args.cut c.ranges.cut) c.with_slack-far.ensures.most)
    c.in_ok-found.found
    (subst (λ (w : ℤ). IsFoundWithinFor c.args.task.now w c.in_ok-found.found) (to_z-of_z w64 far far_fits) c.in_ok-found.ensures.found)
