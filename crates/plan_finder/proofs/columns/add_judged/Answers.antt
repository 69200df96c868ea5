use Rattle.std.proofs.Common.{rules, subst, ◌≡◌, List, ℕ}
use Rattle.branch_marks.specs.Pool.{IsFittingEntry}
use Rattle.plan_finder.proofs.columns.add_judged.Goals as goal

-- the copy is the route that was judged
pub returns-in_err-add_route-clause-fitting : goal.returns-in_err-add_route-clause-fitting
returns-in_err-add_route-clause-fitting c = λ all.
    let book = c.args.problem.now.book.now in let facts = c.args.marks.now.facts in
    let good : IsFittingEntry book facts (record { aircraft = c.args.k; route = c.args.route.now }) = search rules in
    let items : c.args.route.now ≡ c.in_ok-from_slice.field-0.items = search rules in
    let same = λ (route : List ℕ). IsFittingEntry book facts (record { aircraft = c.args.k; route = route }) in
    c.add_route.ensures.fitting facts all (subst same items good)

-- the copy is the route that was judged
pub returns-in_ok-add_route-clause-fitting : goal.returns-in_ok-add_route-clause-fitting
returns-in_ok-add_route-clause-fitting c = λ all.
    let book = c.args.problem.now.book.now in let facts = c.args.marks.now.facts in
    let good : IsFittingEntry book facts (record { aircraft = c.args.k; route = c.args.route.now }) = search rules in
    let items : c.args.route.now ≡ c.in_ok-from_slice.field-0.items = search rules in
    let same = λ (route : List ℕ). IsFittingEntry book facts (record { aircraft = c.args.k; route = route }) in
    c.add_route.ensures.fitting facts all (subst same items good)
