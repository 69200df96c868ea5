use Rattle.std.proofs.Common.{◌≡◌, ℕ, Option, rules, subst, sym}
use Rattle.std.specs.Prelude.{IfSome}
use Rattle.branch_marks.specs.Bound.{bound_of, Passes}
use Rattle.quota_node.proofs.Choices.{true_choice}
use Rattle.quota_node.proofs.choice.choose.Goals as goal

-- a plan that breaks a quota leaves the target where it was
pub returns-in-Some-2-clause-chosen : goal.returns-in-Some-2-clause-chosen
returns-in-Some-2-clause-chosen c =
    let same : c.try_plan.new.best.target ≡ c.args.best.now.target =
    subst (λ (o : Option ℕ). IfSome o (λ _. c.try_plan.new.best.target ≡ c.args.best.now.target)) c.in-Some-2.is c.in_ok-q.ensures.same in
    let below : ¬ Passes (bound_of c.args.sum) c.try_plan.new.best.target =
    subst (λ (t : ℕ). ¬ Passes (bound_of c.args.sum) t) (sym same) c.requires.below in
    true_choice c.args.book.now c.args.marks.now.facts c.args.sum c.try_plan.new.best.target below c.broken_pair.result c.choice_of.result
    c.choice_of.ensures.none c.choice_of.ensures.some c.broken_pair.ensures

pub returns-clause-chosen : goal.returns-clause-chosen
returns-clause-chosen c =
    let below : ¬ Passes (bound_of c.args.sum) c.try_plan.new.best.target = search rules in
    true_choice c.args.book.now c.args.marks.now.facts c.args.sum c.try_plan.new.best.target below c.free_pair.result c.choice_of-2.result
    c.choice_of-2.ensures.none c.choice_of-2.ensures.some c.free_pair.ensures
