use Rattle.std.proofs.Common.{◌≡◌, ◌∙◌, Some, sym, rules, subst}
use Rattle.cert_checker.specs.Certificate.{claimed_cost}
use Rattle.cert_checker.specs.Step.{Step}
use Rattle.cert_checker.specs.Reasons.{has_claimed_plan}
use Rattle.cert_checker.specs.inside.Kept.{Gives}
use Rattle.cert_checker.proofs.AtEnds.{claim_with_plan}
use Rattle.cert_checker.proofs.state.Judging.take_claim_with_plan.Goals as goal

pub returns-clause-step : goal.returns-clause-step
returns-clause-step c =
    let book = c.args.book.now in
    let old = c.args.self.now in
    let has : c.in_ok-has.has ≡ has_claimed_plan book (Some old.fliers.items) (claimed_cost c.args.claim) = search rules in
    subst (λ (step : Step). Gives step c.judge_claim.new.self c.judge_claim.result)
    (sym (claim_with_plan book old c.requires.here c.args.claim (sym c.has_all_fliers.ensures ∙ c.if-not-has_all_fliers.false)))
    (c.judge_claim.ensures.step book (Some old.fliers.items) c.requires.means has)
