-- A plan that costs least with its moves raised is a least repair if no plan has fewer moves: another plan has more, or as
-- many, and then the raise is the same on both sides and can be taken off.
--
-- Where the raise is above what any plan costs, a plan with a move less would cost less, whatever it costs otherwise.
use Rattle.std.proofs.Common.{◌≡◌, ℕ, suc, ◌+◌, ◌*◌, ◌<◌, ◌≤◌, inl, inr, arith, List, subst}
use Rattle.std.proofs.Math.Nat.{mul-le-mul}
use Rattle.std.proofs.lemmas.Bool.{cases_lt}
use Rattle.std.specs.Prelude.{◌⊎◌, Option}
use Rattle.tail_book.specs.Seen.{BookSeen}
use Rattle.tail_book.specs.Cost.{plan_cost}
use Rattle.tail_book.specs.declared.limits.TheConstants.{LEG_COST_LIMIT}
use Rattle.tail_book.specs.Lookup.{activities}
use Rattle.tail_book.specs.inside.Bounds.{LegalPlansCostAtMost}
use Rattle.tail_book.specs.inside.Sound.{IsBook}
use Rattle.plan_homes.specs.Moves.{moves}
use Rattle.plan_repair.specs.declared.least_plans.LeastPlan.{LeastPlan}
use Rattle.plan_repair.specs.declared.rungs.Priced.{Priced}
use Rattle.plan_repair.specs.inside.Found.{IsFewest}
use Rattle.plan_repair.specs.inside.Rungs.{HighestIsFewest, IsPricedAt, LeastOfFewestIsRepair, highest}

no_better : (raise m n c d : ℕ) → c + raise * m ≤ d + raise * n → m ≤ n → (m < n) ⊎ ((m ≡ n) × (c ≤ d))
no_better raise m n c d cheap few = elim (cases_lt m n) [
  | inl less ↦ inl less
  | inr more ↦
      let same : m ≡ n = omega (arith, few, more) in
      let alike : c + raise * n ≤ d + raise * n = subst (λ (k : ℕ). c + raise * k ≤ d + raise * n) same cheap in
      inr (same, omega (arith, alike))
]

pub least_of_fewest : LeastOfFewestIsRepair
least_of_fewest book homes raise plan least few = record {
  legal = least.legal;
  least = λ other legal. no_better raise (moves homes plan) (moves homes other) (plan_cost book plan) (plan_cost book other) (least.least other legal) (few other legal);
}

too_dear : (raise m n c d most : ℕ) → n < m → c + raise * m ≤ d + raise * n → d ≤ most → most + 1 ≤ raise → ⊥
too_dear raise m n c d most fewer cheap low high =
    let next : suc n ≤ m = omega (arith, fewer) in
    let raise_again : raise ≤ raise = omega arith in
    let more : raise * suc n ≤ raise * m = mul-le-mul raise_again next in
    absurd (omega (arith, more, cheap, low, high))

pub highest_fewest : LegalPlansCostAtMost → HighestIsFewest
highest_fewest most book homes raise plan sound high least = λ other legal. elim (cases_lt (moves homes other) (moves homes plan)) [
  | inl fewer ↦ absurd (too_dear raise (moves homes plan) (moves homes other) (plan_cost book plan) (plan_cost book other) (LEG_COST_LIMIT * activities book)
      fewer (least.least other legal) (most book sound other legal) high)
  | inr more ↦ more
]

-- a plan that costs least with its moves raised, and has more moves than another, was not raised by the highest amount
pub not_highest : HighestIsFewest → (book : BookSeen) (homes : List (Option ℕ)) (raise : ℕ) (found : Priced) (fewest : LeastPlan) → IsBook book
    → IsPricedAt book homes raise found → IsFewest book homes fewest → fewest.cost < found.moves → raise < highest book
not_highest law book homes raise found fewest sound priced few more = elim (cases_lt raise (highest book)) [
  | inl lower ↦ lower
  | inr high ↦
      let least = law book homes raise found.plan sound high priced.least fewest.plan few.legal in
      absurd (omega (arith, least, priced.count, few.count, more))
]
