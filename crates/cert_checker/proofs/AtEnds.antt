-- What a claim gives, by the part of the certificate that stands before it. Behind a plan the fliers have to be one for
-- each activity, and then the claim is judged with them. Anywhere else the last leaf is closed first, and the claim is
-- judged without a plan, so that it may have no cost of one.
use Rattle.std.specs.Prelude.{◌==◌, is_none}
use Rattle.std.proofs.Common.{◌≡◌, ◌∙◌, ℕ, true, false, Option, None, Some, Err, length, refl, ap}
use Rattle.tail_book.specs.Lookup.{activities}
use Rattle.tail_book.specs.Seen.{BookSeen}
use Rattle.tail_book.specs.declared.claim.Claim.{Claim}
use Rattle.tail_text.specs.Checks.{look}
use Rattle.cert_checker.specs.Step.{after_leaf, judge_claim, take_claim_in}
use Rattle.cert_checker.specs.Reasons.{has_claimed_plan}
use Rattle.cert_checker.specs.State.{State}
use Rattle.cert_checker.specs.declared.state.Judging.{Judging}
use Rattle.cert_checker.specs.declared.state.Part.{Part}
use Rattle.cert_checker.specs.declared.state.Part.TheVariants.{Start, InTree, InBound, InLean, InPlan, Claimed}
use Rattle.cert_checker.specs.declared.verdict.Reason.TheVariants.{OutOfPlace}
use Rattle.cert_checker.specs.inside.Kept.{section_in, state_of}
use Rattle.cert_checker.proofs.AtNodes.{passed, stopped}

module _ (book : BookSeen) (judging : Judging) where
  abbrev state : State
  state = state_of judging

  -- behind a plan
  module _ (here : judging.part ≡ InPlan) where
    pub claim_short : (claim : Claim) → (length judging.fliers.items == activities book) ≡ false → take_claim_in book state claim (section_in judging judging.part) ≡ Err OutOfPlace
    claim_short claim e = ap (λ (part : Part). take_claim_in book state claim (section_in judging part)) here ∙ stopped _ OutOfPlace _ e

    pub claim_with_plan : (claim : Claim) → (length judging.fliers.items == activities book) ≡ true
        → take_claim_in book state claim (section_in judging judging.part) ≡ judge_claim book state (Some judging.fliers.items) claim
    claim_with_plan claim e = ap (λ (part : Part). take_claim_in book state claim (section_in judging part)) here ∙ passed _ OutOfPlace _ e

  -- elsewhere
  pub claim_elsewhere : (claim : Claim) → ¬ judging.part ≡ InPlan
      → take_claim_in book state claim (section_in judging judging.part) ≡ look (after_leaf book state) (λ here. judge_claim book here None claim)
  claim_elsewhere claim other = by_part judging.part refl
    where
      by_part : (part : Part) → judging.part ≡ part → take_claim_in book state claim (section_in judging part) ≡ look (after_leaf book state) (λ here. judge_claim book here None claim)
      by_part Start e = refl
      by_part InTree e = refl
      by_part InBound e = refl
      by_part InLean e = refl
      by_part InPlan e = absurd (other e)
      by_part (Claimed claim) e = refl

-- without a plan, the claim has to have none
pub no_plan : (book : BookSeen) (cost : Option ℕ) → has_claimed_plan book None cost ≡ is_none cost
no_plan book None = refl
no_plan book (Some cost) = refl
