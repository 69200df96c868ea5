use Rattle.std.proofs.Common.{◌≡◌, ◌∙◌, List, ℕ, ap, rules, subst, sym}
use Rattle.tail_book.specs.Lookup.{aircraft}
use Rattle.tail_book.specs.Truth.{IsTrueOutcome}
use Rattle.tail_book.specs.declared.outcome.Outcome.TheVariants as outcome
use Rattle.tail_book.specs.Fliers.{plan_by}
use Rattle.plan_enumeration.proofs.Truth.{best_is_least, none_is_legal}
use Rattle.plan_enumeration.proofs.enumerate.outcome_of.Goals as goal

pub returns-then-not-best-clause-truth : goal.returns-then-not-best-clause-truth
returns-then-not-best-clause-truth c =
    none_is_legal c.fliers_fly.ensures c.plans_of_their_fliers.ensures c.plans_by_fliers_are_legal.ensures c.args.book.now c.every_book_is_sound.ensures c.args.best.now c.requires.tried c.if-not-best.true

pub returns-clause-truth : goal.returns-clause-truth
returns-clause-truth c =
    let count : c.len.result ≡ aircraft c.args.book.now = search rules in
    let is : plan_by c.args.best.now.fliers.items (aircraft c.args.book.now) ≡ c.in_ok-plan.plan =
    sym (c.in_ok-plan.ensures ∙ ap (λ (fliers : List ℕ). plan_by fliers c.len.result) c.deref.ensures.value ∙ ap (λ (n : ℕ). plan_by c.args.best.now.fliers.items n) count) in
    subst (λ (plan : List (List ℕ)). IsTrueOutcome c.args.book.now (outcome.Optimal plan c.args.best.now.cost)) is
    (best_is_least c.fliers_fly.ensures c.plans_of_their_fliers.ensures c.plans_by_fliers_are_legal.ensures c.args.book.now c.every_book_is_sound.ensures c.args.best.now c.requires.tried c.if-not-best.false c.requires.best)
