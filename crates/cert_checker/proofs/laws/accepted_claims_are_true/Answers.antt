use Rattle.std.proofs.Common.{arith, subst, ◌≤◌, ℕ, List, []}
use Rattle.tail_book.specs.Cost.{plan_cost}
use Rattle.tail_book.specs.Plan.{IsLegalPlan}
use Rattle.tail_book.specs.CostTable.{costs_of}
use Rattle.cert_checker.specs.Certificate.{asked_of}
use Rattle.cert_checker.proofs.Accepted.{claim_is_line, claim_true}
use Rattle.cert_checker.proofs.laws.accepted_claims_are_true.Goals as goal

-- the tree bounds by the table of the book's own costs, and that is what legal plans cost
pub returns : goal.returns
returns c book sound text claim (version, tree, fliers, made) =
    let (whole, shown, bounds) = c.lean_trees_are_whole.ensures book sound version [] tree (asked_of book claim) made.shown made.bounds in
    let low : (plan : List (List ℕ)) → IsLegalPlan book plan → asked_of book claim ≤ plan_cost book plan = λ plan legal.
    let by_table = c.shown_roots_bound.ensures (costs_of book) book sound whole (asked_of book claim) shown bounds plan legal in
    subst (λ (cost : ℕ). asked_of book claim ≤ cost) (c.own_costs_of_legal_plans.ensures book plan legal) by_table in
    claim_true book fliers (λ plan legal. omega (arith, c.legal_plans_cost_at_most.ensures book sound plan legal)) claim (claim_is_line version book tree fliers claim made.lines) low made.plan
