use Rattle.std.proofs.Common.{◌≡◌, ◌∙◌, ℕ, None, Option, ap, List, length, sym, rules, subst}
use Rattle.std.specs.Prelude.{◌==◌, ◌&&◌}
use Rattle.tail_book.specs.Cost.{plan_cost}
use Rattle.tail_book.specs.CostTable.{IsTableFor}
use Rattle.tail_book.specs.Fliers.{plan_by}
use Rattle.tail_book.specs.TableSeen.{CostTableSeen}
use Rattle.tail_book.specs.LegalTests.{is_legal_plan}
use Rattle.plan_audit.specs.inside.PlanCost.{IsPlanCost}
use Rattle.cert_checker.proofs.Planned.{audited_is, unaudited_is}
use Rattle.cert_checker.proofs.claim.is_plan_of_fliers.Goals as goal

pub audit_plan-requires : goal.audit_plan-requires
audit_plan-requires c =
    subst (λ (table : CostTableSeen). IsTableFor c.args.book.now table) (sym c.requires.means.costs) (c.own_costs_are_for_book.ensures c.args.book.now)

pub returns-in_default : goal.returns-in_default
returns-in_default c =
    let book = c.args.book.now in let table = c.args.means.now.costs in let plan = c.in_ok-plan.plan in
    let is : plan ≡ plan_by c.args.fliers.now (length book.tails) = search rules in
    let none : c.in_ok-audited.audited ≡ None = search rules in
    unaudited_is c.legal_plan_decides.ensures c.own_costs_of_legal_plans.ensures book plan c.args.cost table
    (subst (λ (audited : Option ℕ). IsPlanCost book table plan audited) none c.in_ok-audited.ensures)
    ∙ ap (λ (p : List (List ℕ)). is_legal_plan book p && plan_cost book p == c.args.cost) is

pub returns : goal.returns
returns c =
    let book = c.args.book.now in let table = c.args.means.now.costs in let plan = c.in_ok-plan.plan in
    let is : plan ≡ plan_by c.args.fliers.now (length book.tails) = search rules in
    audited_is c.legal_plan_decides.ensures c.own_costs_of_legal_plans.ensures book plan c.args.cost table c.in-Some.found c.requires.means.costs
    (subst (λ (audited : Option ℕ). IsPlanCost book table plan audited) c.in-Some.is c.in_ok-audited.ensures)
    ∙ ap (λ (p : List (List ℕ)). is_legal_plan book p && plan_cost book p == c.args.cost) is
