-- The least so far, with one number more: one that does not pass leaves it, and a lighter one that passes takes its place.
use Rattle.std.proofs.Common.{◌≡◌, ◌+◌, ℕ, ℤ, arith, sym, ◌∙◌, ap, inl, inr, Bool, true, false, Option, Some, None}
use Rattle.std.proofs.lemmas.Int.{ints, clamps}
use Rattle.std.proofs.lemmas.Bool.{cases_eq, both_ways}
use Rattle.std.specs.Prelude.{int_lt}
use Rattle.tail_book.proofs.Picked.{picked}
use Rattle.restricted_master.specs.inside.Least.{IsLeastBelow, lighter}

module _ (n : ℕ) (test : ℕ → Bool) (f : ℕ → ℤ) where
  -- one more that does not pass
  pub below_fail : (o : Option ℤ) → IsLeastBelow n test f o → test n ≡ false → IsLeastBelow (n + 1) test f o
  below_fail None least fails = λ i lt. elim (cases_eq i n) [
    | inl e ↦ ap test e ∙ fails
    | inr ne ↦ least i (omega (arith, lt, ne))
  ]
  below_fail (Some v) least fails = (
    λ i lt pass. elim (cases_eq i n) [
      | inl e ↦ absurd (both_ways (test i) (ap test e ∙ fails) pass)
      | inr ne ↦ least.0 i (omega (arith, lt, ne)) pass
    ],
    (let (i, lt, pass, is) = least.1 in (i, omega (arith, lt), pass, is)),
  )

  -- one more that passes
  pub below_pass : (o : Option ℤ) (w : ℤ) → IsLeastBelow n test f o → test n ≡ true → w ≡ f n → IsLeastBelow (n + 1) test f (lighter o w)
  below_pass None w least passes is = (
    λ i lt pass. elim (cases_eq i n) [
      | inl e ↦ (let at : f i ≡ f n = ap f e in omega (arith, ints, at, is))
      | inr ne ↦ absurd (both_ways (test i) (least i (omega (arith, lt, ne))) pass)
    ],
    (n, omega arith, passes, sym is),
  )
  below_pass (Some v) w least passes is = (
    λ i lt pass. elim (cases_eq i n) [
      | inl e ↦ (let at : f i ≡ f n = ap f e in omega (arith, ints, clamps, at, is))
      | inr ne ↦ (let before = least.0 i (omega (arith, lt, ne)) pass in omega (arith, ints, clamps, before))
    ],
    elim (picked (int_lt w v) v w) [
      | inl e ↦ (let (i, lt, pass, at) = least.1 in (i, omega (arith, lt), pass, at ∙ sym e))
      | inr e ↦ (n, omega arith, passes, sym is ∙ sym e)
    ],
  )
