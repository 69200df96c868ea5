use Rattle.std.proofs.Common.{◌≡◌, ◌∙◌, None, ap, sym, rules, subst}
use Rattle.tail_text.specs.Checks.{look}
use Rattle.cert_checker.specs.Certificate.{claimed_cost}
use Rattle.cert_checker.specs.Step.{Step, judge_claim}
use Rattle.cert_checker.specs.Reasons.{has_claimed_plan}
use Rattle.cert_checker.specs.inside.Kept.{Gives}
use Rattle.cert_checker.proofs.AtEnds.{claim_elsewhere, no_plan}
use Rattle.cert_checker.proofs.state.Judging.take_claim_alone.Goals as goal

pub returns-then-not-done-clause-step : goal.returns-then-not-done-clause-step
returns-then-not-done-clause-step c =
    claim_elsewhere c.args.book.now c.args.self.now c.args.claim c.requires.elsewhere
    ∙ ap (λ (after : Step). look after (λ here. judge_claim c.args.book.now here None c.args.claim)) (c.close_leaf-done.ensures.early c.if-not-done.true)

pub returns-clause-step : goal.returns-clause-step
returns-clause-step c =
    let book = c.args.book.now in
    let has : c.is_none.result ≡ has_claimed_plan book None (claimed_cost c.args.claim) = search (rules, no_plan) in
    subst (λ (step : Step). Gives step c.judge_claim.new.self c.judge_claim.result)
    (sym (claim_elsewhere book c.args.self.now c.args.claim c.requires.elsewhere
    ∙ ap (λ (after : Step). look after (λ here. judge_claim book here None c.args.claim)) (c.close_leaf-done.ensures.closed c.if-not-done.false)))
    (c.judge_claim.ensures.step book None c.requires.means has)
