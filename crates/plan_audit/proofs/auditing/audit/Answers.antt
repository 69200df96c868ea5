use Rattle.std.proofs.Common.{◌≡◌, ◌∙◌, sym, ap, arith, rules, []}
use Rattle.std.proofs.lemmas.Grind.{common_steps}
use Rattle.plan_audit.specs.Met.{names_met}
use Rattle.plan_audit.specs.Kept.{legs_met}
use Rattle.plan_audit.specs.inside.LegCost.{legs_cost}
use Rattle.plan_audit.specs.Broken.{broken, broken_by}
use Rattle.plan_audit.proofs.auditing.audit.Goals as goal

-- nothing is listed, so the plan is legal
pub returns-then-is_empty : goal.returns-then-is_empty
returns-then-is_empty c =
    let book = c.args.book.now in
    let raw = c.args.raw.now in
    let met : c.in_ok-met_names.met_names.met.items ≡ names_met book raw = c.in_ok-met_names.ensures.reads in
    let none : c.in_ok-list.list.items ≡ [] = grind (arith, common_steps) in
    let unbroken : broken book raw ≡ [] = ap (broken_by book) (sym met) ∙ sym c.in_ok-list.ensures ∙ none in
    let plan = c.unbroken_plans_are_legal.ensures book c.every_book_is_sound.ensures raw unbroken in
    let legs : c.deref-then-is_empty.result.now ≡ legs_met (names_met book raw) = search rules in
    (unbroken, record { legal = plan.legal; costs = plan.costs ∙ sym (c.legs_cost.ensures ∙ ap (legs_cost book) legs) })
