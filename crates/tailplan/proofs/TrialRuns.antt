-- From what a trial finds to what its status promises. The plan that the tables were made with is legal, and none
-- undercuts it. So a true outcome agrees with its cost: an optimal cost is that cost, by both at most the other, and a
-- bound is at most that cost. The certificate in the sink is that of the outcome, so the checker says yes to it.
use Rattle.std.proofs.Common.{◌≡◌, ◌∙◌, ◌≤◌, ℕ, Bool, true, false, inl, inr, arith, List, [], Some, Result, Ok, IfOk, refl, sym, subst}
use Rattle.tail_book.specs.Seen.{BookSeen}
use Rattle.tail_book.specs.Truth.{IsTrueOutcome, claim_of}
use Rattle.tail_book.specs.declared.claim.Claim.{Claim}
use Rattle.tail_book.specs.declared.outcome.Outcome.{Outcome}
use Rattle.tail_book.specs.declared.outcome.Outcome.TheVariants.{Optimal, Infeasible, Between, Above}
use Rattle.tail_outside.proofs.OutsideLemmas.{TakesFront-whole}
use Rattle.tail_outside.specs.Outside.{Takes}
use Rattle.tail_outside.specs.Shown.{SinkShown}
use Rattle.branch_tree.specs.declared.limit.Limit.TheVariants.{Nodes}
use Rattle.node_leaves.specs.declared.stop.Stop.{Stop}
use Rattle.cert_checker.specs.Certificate.{Accepts}
use Rattle.cert_checker.specs.Verdict.{AcceptedIsYes, verdict}
use Rattle.cert_checker.specs.declared.verdict.Verdict.{Verdict}
use Rattle.cert_lines.specs.declared.version.Version.TheVariants.{Full}
use Rattle.certified_search.specs.Written.{IsCertificateOf, LeavesText}
use Rattle.certified_search.specs.declared.order.Order.TheVariants.{DepthFirst}
use Rattle.plan_report.specs.Lines.{text_of}
use Rattle.run_frame.specs.inside.Answer.{IsPrinted, status_of}
use Rattle.run_frame.specs.declared.answer.Answer.{Answer}
use Rattle.run_frame.specs.declared.answer.Answer.TheVariants.{Usage, Refused, Found, ReadFailed, Memory}
use Rattle.seed_tables.specs.Making.{IsBookOfTrial, making_cost, making_plan}
use Rattle.seed_tables.specs.Trial.{trial_of}
use Rattle.tailplan.specs.Answers.{HasTree}
use Rattle.tailplan.specs.Trials.{AgreesWith, IsTrial, IsTrialAnswer, IsTriedOf, TrialPromise, tried_lines, trial_text}
use Rattle.tailplan.specs.declared.trial.TheConstants.{TRIAL_NODES}
use Rattle.tailplan.specs.declared.trial.Tried.{Tried}
use Rattle.tailplan.specs.inside.Outcomes.{outcome_status}
use Rattle.tailplan.specs.inside.Trials.{IsYes}

equal_costs : (made cost of_plan of_made : ℕ) → made ≤ of_plan → of_plan ≡ cost → cost ≤ of_made → of_made ≡ made → cost ≡ made
equal_costs made cost of_plan of_made least costs low made_costs = omega (arith, least, costs, low, made_costs)

no_more : (made low of_made : ℕ) → low ≤ of_made → of_made ≡ made → low ≤ made
no_more made low of_made below made_costs = omega (arith, below, made_costs)

-- a true outcome agrees with the making, whose plan is legal and undercut by none
agrees : (seed : ℕ) (book : BookSeen) (outcome : Outcome) → IsBookOfTrial seed (trial_of seed) book → IsTrueOutcome book outcome → AgreesWith (making_cost seed) outcome
agrees seed book (Optimal plan cost) made truth =
    equal_costs (making_cost seed) cost _ _ (made.least plan truth.plan.legal) truth.plan.costs (truth.claim.1 (making_plan book seed) made.plan.legal) made.plan.costs
agrees seed book Infeasible made truth = truth.claim (making_plan book seed) made.plan.legal
agrees seed book (Between plan low high nodes) made truth = no_more (making_cost seed) low _ (truth.claim.2 (making_plan book seed) made.plan.legal) made.plan.costs
agrees seed book (Above low nodes) made truth = no_more (making_cost seed) low _ (truth.claim (making_plan book seed) made.plan.legal) made.plan.costs

same_text : (bytes text : List ℕ) → Some bytes ≡ Some text → text ≡ bytes
same_text bytes text same = cc same

-- what a search that ended left in a sink which told nothing before is the certificate of its outcome
text_of_search : (book : BookSeen) (outcome : Outcome) (bytes : List ℕ) (first last : SinkShown) → LeavesText first last (IsCertificateOf book (Nodes TRIAL_NODES) DepthFirst Full outcome)
    → first.told ≡ Some [] → last.ceased ≡ false → last.told ≡ Some bytes → IsCertificateOf book (Nodes TRIAL_NODES) DepthFirst Full outcome bytes
text_of_search book outcome bytes first last leaves empty alive told =
    let written = leaves alive empty in
    subst (λ (text : List ℕ). IsCertificateOf book (Nodes TRIAL_NODES) DepthFirst Full outcome text) (same_text bytes written.0 (sym told ∙ written.1)) written.2

-- a certificate that was judged was accepted
accepted_of : (book : BookSeen) (accepted : Bool) (text : List ℕ) (claim : Claim) → AcceptedIsYes → Accepts book text claim → IsYes accepted (verdict book text) → accepted ≡ true
accepted_of book accepted text claim law accepts judged = subst (λ (v : Verdict). IsYes accepted v) (law book text claim accepts) judged

tried_with : (seed : ℕ) (book : BookSeen) (outcome : Outcome) (accepted : Bool) (text : List ℕ) → AcceptedIsYes → IsBookOfTrial seed (trial_of seed) book → IsTrueOutcome book outcome
    → HasTree book (Nodes TRIAL_NODES) DepthFirst outcome → IsCertificateOf book (Nodes TRIAL_NODES) DepthFirst Full outcome text → IsYes accepted (verdict book text)
    → IsTriedOf seed (record { seed = seed; outcome = outcome; accepted = accepted })
tried_with seed book outcome accepted text law made truth tree certified judged = record {
  asked = refl;
  accepted = accepted_of book accepted text (claim_of outcome) law certified.accepted judged;
  trial = record { book = book; text = text; is = made; truth = truth; tree = tree; certified = certified; agrees = agrees seed book outcome made truth };
}

-- what was found and judged is what the trial of the seed answers
pub tried_of : (seed : ℕ) (book : BookSeen) (outcome : Outcome) (accepted : Bool) (bytes : List ℕ) (found : Result Outcome Stop) (first last : SinkShown) → AcceptedIsYes
    → IsBookOfTrial seed (trial_of seed) book → found ≡ Ok outcome → IfOk found (IsTrueOutcome book) → IfOk found (HasTree book (Nodes TRIAL_NODES) DepthFirst)
    → IfOk found (λ o. LeavesText first last (IsCertificateOf book (Nodes TRIAL_NODES) DepthFirst Full o)) → first.told ≡ Some [] → last.ceased ≡ false → last.told ≡ Some bytes
    → IsYes accepted (verdict book bytes) → IsTriedOf seed (record { seed = seed; outcome = outcome; accepted = accepted })
tried_of seed book outcome accepted bytes found first last law made is truth tree leaves empty alive told judged =
    let left = subst (λ (f : Result Outcome Stop). IfOk f (λ o. LeavesText first last (IsCertificateOf book (Nodes TRIAL_NODES) DepthFirst Full o))) is leaves in
    tried_with seed book outcome accepted bytes law made (subst (λ (f : Result Outcome Stop). IfOk f (IsTrueOutcome book)) is truth)
    (subst (λ (f : Result Outcome Stop). IfOk f (HasTree book (Nodes TRIAL_NODES) DepthFirst)) is tree) (text_of_search book outcome bytes first last left empty alive told) judged

-- an outcome that was printed promises what its status says
found : (seed : ℕ) (before after : SinkShown) (outcome : Outcome) → IsTrial seed outcome → Takes before after (text_of (tried_lines seed outcome true))
    → TrialPromise seed before after (outcome_status outcome)
found seed before after (Optimal plan cost) trial took = record { outcome = Optimal plan cost; of_kind = tt; trial = trial; printed = took }
found seed before after Infeasible trial took = absurd trial.agrees
found seed before after (Between plan low high nodes) trial took = record { outcome = Between plan low high nodes; of_kind = tt; trial = trial; printed = took }
found seed before after (Above low nodes) trial took = record { outcome = Above low nodes; of_kind = tt; trial = trial; printed = took }

-- the lines that were printed say the seed and yes
as_promised : (before after : SinkShown) (said seed : ℕ) (outcome : Outcome) (accepted : Bool) → said ≡ seed → accepted ≡ true
    → Takes before after (text_of (tried_lines said outcome accepted)) → Takes before after (text_of (tried_lines seed outcome true))
as_promised before after said seed outcome accepted is was_yes took =
    subst (λ (a : Bool). Takes before after (text_of (tried_lines seed outcome a))) was_yes (subst (λ (n : ℕ). Takes before after (text_of (tried_lines n outcome accepted))) is took)

module _ (seed : ℕ) (before after : SinkShown) (status : ℕ) where
  by_answer : (answer : Answer Tried) → IsTrialAnswer seed answer → Takes before after (trial_text answer)
      → TrialPromise seed before after (status_of (λ (t : Tried). outcome_status t.outcome) answer)
  by_answer (Found tried) is took = found seed before after tried.outcome is.trial (as_promised before after tried.seed seed tried.outcome tried.accepted is.asked is.accepted took)
  by_answer Memory is took = record { answer = Memory; truth = tt; printed = TakesFront-whole before after [] took }
  by_answer Usage is took = absurd is
  by_answer (Refused refusal) is took = absurd is
  by_answer ReadFailed is took = absurd is

  pub trial_promise : (answer : Answer Tried) → IsTrialAnswer seed answer → IsPrinted (trial_text answer) (status_of (λ (t : Tried). outcome_status t.outcome) answer) before after status
      → TrialPromise seed before after status
  trial_promise answer truth printed = elim printed [
    | inl h ↦ subst (λ (s : ℕ). TrialPromise seed before after s) (sym h.0) (by_answer answer truth h.1)
    | inr (inl h) ↦ subst (λ (s : ℕ). TrialPromise seed before after s) (sym h.0) (h.1, record { answer = answer; truth = truth; printed = h.2 })
    | inr (inr h) ↦ subst (λ (s : ℕ). TrialPromise seed before after s) (sym h.0) (record { answer = answer; truth = truth; printed = h.1 })
  ]
