use Rattle.std.proofs.Common.{◌≡◌, ℤ, List, [], rules, subst}
use Rattle.tail_book.specs.Seen.{BookSeen}
use Rattle.tail_book.specs.TableSeen.{CostTableSeen}
use Rattle.branch_marks.specs.declared.fact.Fact.{Fact}
use Rattle.dive_heuristic.specs.declared.answer.DiveStep.{DiveStep}
use Rattle.dive_heuristic.specs.Dive.{AtDeadEnd, AtPlan, IsDeadEnd}
use Rattle.dive_heuristic.specs.LeastRoutes.{IsEachInOne}
use Rattle.dive_heuristic.specs.inside.DiveSteps.{AddsSteps, StandsAt}
use Rattle.dive_heuristic.proofs.Forced.{go_both}
use Rattle.dive_heuristic.proofs.Onward.{dive_of, wait_of, plan_of, plan_fits}
use Rattle.dive_heuristic.proofs.descent.dive_from.Goals as goal

-- from no steps on, in two parts
in_two : (table : CostTableSeen) (book : BookSeen) (duals : List ℤ) (first mid last : List Fact) (none half steps : List DiveStep) → none ≡ []
    → AddsSteps table book duals first mid none half → AddsSteps table book duals mid last half steps → AddsSteps table book duals first last [] steps
in_two table book duals first mid last none half steps empty one other =
    subst (λ (z : List DiveStep). AddsSteps table book duals first last z steps) empty (go_both table book duals first mid last none half steps one other)

pub returns-in-Some-clause-dive : goal.returns-in-Some-clause-dive
returns-in-Some-clause-dive c =
    let dead : IsDeadEnd c.args.book.now c.go_down.new.marks.facts c.in-Some.end = search rules in
    dive_of c.args.table.now c.args.book.now c.args.duals.now.values c.args.marks.now.facts c.go_down.new.marks.facts c.go_down.new.steps.items (AtDeadEnd c.in-Some.end)
    (in_two c.args.table.now c.args.book.now c.args.duals.now.values c.args.marks.now.facts c.begin.new.marks.facts c.go_down.new.marks.facts
    c.new-steps.result.items c.begin.new.steps.items c.go_down.new.steps.items c.new-steps.ensures.items c.in_ok-found.ensures.goes c.in_ok-end.ensures.goes)
    c.in_ok-end.ensures.shut dead

pub returns-in-Some-clause-order : goal.returns-in-Some-clause-order
returns-in-Some-clause-order c =
    wait_of c.args.table.now c.args.book.now c.args.duals.now.values c.args.marks.now.facts c.go_down.new.marks.facts c.go_down.new.steps.items
    (in_two c.args.table.now c.args.book.now c.args.duals.now.values c.args.marks.now.facts c.begin.new.marks.facts c.go_down.new.marks.facts
    c.new-steps.result.items c.begin.new.steps.items c.go_down.new.steps.items c.new-steps.ensures.items c.in_ok-found.ensures.goes c.in_ok-end.ensures.goes)

-- the routes at the end are a plan
pub legal_cost-cost-requires-clause-legal : goal.legal_cost-cost-requires-clause-legal
legal_cost-cost-requires-clause-legal c =
    let stands : StandsAt c.args.table.now c.args.book.now c.go_down.new.marks.facts c.args.duals.now.values c.go_down.new.routes.items = search rules in
    let once : IsEachInOne c.args.book.now c.go_down.new.routes.items = search rules in
    plan_of c.args.table.now c.args.book.now c.args.duals.now.values c.go_down.new.marks.facts c.go_down.new.routes.items stands.least once

pub returns-clause-dive : goal.returns-clause-dive
returns-clause-dive c =
    let stands : StandsAt c.args.table.now c.args.book.now c.go_down.new.marks.facts c.args.duals.now.values c.go_down.new.routes.items = search rules in
    let once : IsEachInOne c.args.book.now c.go_down.new.routes.items = search rules in (
      c.go_down.new.steps.items,
      dive_of c.args.table.now c.args.book.now c.args.duals.now.values c.args.marks.now.facts c.go_down.new.marks.facts c.go_down.new.steps.items (AtPlan c.go_down.new.routes.items)
          (in_two c.args.table.now c.args.book.now c.args.duals.now.values c.args.marks.now.facts c.begin.new.marks.facts c.go_down.new.marks.facts
          c.new-steps.result.items c.begin.new.steps.items c.go_down.new.steps.items c.new-steps.ensures.items c.in_ok-found.ensures.goes c.in_ok-end.ensures.goes)
          c.in_ok-end.ensures.shut (stands.somebody, stands.least, once),
    )

pub returns-clause-plan : goal.returns-clause-plan
returns-clause-plan c =
    let stands : StandsAt c.args.table.now c.args.book.now c.go_down.new.marks.facts c.args.duals.now.values c.go_down.new.routes.items = search rules in
    let once : IsEachInOne c.args.book.now c.go_down.new.routes.items = search rules in
    record {
      legal = plan_of c.args.table.now c.args.book.now c.args.duals.now.values c.go_down.new.marks.facts c.go_down.new.routes.items stands.least once;
      fits = plan_fits c.args.table.now c.args.book.now c.args.duals.now.values c.fits_with_fewer.ensures c.args.marks.now.facts c.go_down.new.marks.facts
          c.go_down.new.steps.items c.go_down.new.routes.items
          (in_two c.args.table.now c.args.book.now c.args.duals.now.values c.args.marks.now.facts c.begin.new.marks.facts c.go_down.new.marks.facts
          c.new-steps.result.items c.begin.new.steps.items c.go_down.new.steps.items c.new-steps.ensures.items c.in_ok-found.ensures.goes c.in_ok-end.ensures.goes)
          stands.least;
      costs = search rules;
    }
