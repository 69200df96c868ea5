-- The least of what numbers weigh: where one passes, none that passes weighs less and one weighs it. It hangs on the weights alone.
use Rattle.std.proofs.Common.{◌≡◌, ◌<◌, ◌+◌, ◌≤ℤ◌, ℕ, zero, suc, ℤ, pos, arith, refl, sym, ap, ap₂, subst, inl, inr, add-one, Bool, true, Option, Some, None, ◌∙◌}
use Rattle.std.proofs.lemmas.Int.{ints, clamps}
use Rattle.std.proofs.lemmas.Bool.{both_ways}
use Rattle.std.specs.Prelude.{if◌then◌else◌}
use Rattle.std.specs.Int.{int_min}
use Rattle.std.specs.Option.{unwrap_or}
use Rattle.branch_marks.specs.Pool.{least_with}
use Rattle.restricted_master.specs.inside.Least.{IsLeastBelow, lighter}
use Rattle.fee_master.proofs.LeastBelow.{below_fail, below_pass}
use Rattle.fee_master.proofs.Members.{true_or_false}
use Rattle.fee_master.specs.PoolSum.{least_below}

pub least_same : (p : ℕ → Bool) (f g : ℕ → ℤ) (n : ℕ) → ((i : ℕ) → i < n → f i ≡ g i) → least_below p f n ≡ least_below p g n
least_same p f g zero same = refl
least_same p f g (suc n) same =
    ap₂ (λ (w : ℤ) (o : Option ℤ). if p n then Some (least_with w o) else o) (same n (omega arith))
    (least_same p f g n (λ i lt. same i (omega (arith, lt))))

turned : (v w : ℤ) → int_min v w ≡ int_min w v
turned v w = omega (arith, ints, clamps)

with_one : (o : Option ℤ) (w : ℤ) → lighter o w ≡ Some (least_with w o)
with_one None w = refl
with_one (Some v) w = ap Some (turned v w)

module _ (p : ℕ → Bool) (f : ℕ → ℤ) where
  pub is_least : (n : ℕ) → IsLeastBelow n p f (least_below p f n)
  is_least zero = λ i lt. absurd (omega (arith, lt))
  is_least (suc n) = subst (λ (m : ℕ). IsLeastBelow m p f (least_below p f (suc n))) (add-one n) (elim (true_or_false (p n)) [
    | inl pass ↦ subst (λ (o : Option ℤ). IsLeastBelow (n + 1) p f o)
        (with_one (least_below p f n) (f n) ∙ sym (ap (λ (b : Bool). if b then Some (least_with (f n) (least_below p f n)) else least_below p f n) pass))
        (below_pass n p f (least_below p f n) (f n) (is_least n) pass refl)
    | inr fail ↦ subst (λ (o : Option ℤ). IsLeastBelow (n + 1) p f o)
        (sym (ap (λ (b : Bool). if b then Some (least_with (f n) (least_below p f n)) else least_below p f n) fail))
        (below_fail n p f (least_below p f n) (is_least n) fail)
  ])

  some_least : (n : ℕ) (o : Option ℤ) → ((i : ℕ) × (i < n) × (p i ≡ true)) → IsLeastBelow n p f o → IsLeastBelow n p f (Some (unwrap_or o (pos 0)))
  some_least n None (i, lt, pass) none = absurd (both_ways (p i) (none i lt) pass)
  some_least n (Some v) some least = least

  pub value_is_least : (n : ℕ) → ((i : ℕ) × (i < n) × (p i ≡ true)) → IsLeastBelow n p f (Some (unwrap_or (least_below p f n) (pos 0)))
  value_is_least n some = some_least n (least_below p f n) some (is_least n)

  -- what none undercuts and one weighs is the least
  pub value_is : (n : ℕ) (v : ℤ) → ((i : ℕ) → i < n → p i ≡ true → v ≤ℤ f i) → ((i : ℕ) × (i < n) × (p i ≡ true) × (f i ≡ v))
      → unwrap_or (least_below p f n) (pos 0) ≡ v
  value_is n v low (i, lt, pass, is) =
      let least = value_is_least n (i, lt, pass) in
      let (j, below, passes, at) = least.1 in
      let less = least.0 i lt pass in
      let more = low j below passes in
      omega (arith, ints, less, more, is, at)
