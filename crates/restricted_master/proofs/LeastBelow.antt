-- The least so far, with one number more: one that does not pass, or is no lighter, leaves it, and a lighter one that
-- passes takes its place. And the least over places of a list is the least over what stands there, since each number
-- that passes has a place, and each place a number.
use Rattle.std.proofs.Common.{◌≡◌, ◌<◌, ◌+◌, ◌≤ℤ◌, ◌-ℤ◌, ℕ, ℤ, pos, arith, refl, sym, ◌∙◌, ap, subst, inl, inr, Bool, true, false, cond, List, length, get_or, Option, Some, None}
use Rattle.std.proofs.lemmas.Int.{ints, clamps}
use Rattle.std.proofs.lemmas.Bool.{cases_eq, both_ways, and_from, and_parts}
use Rattle.std.specs.Prelude.{int_lt, ◌&&◌}
use Rattle.tail_book.specs.Ranges.{IsWithin}
use Rattle.tail_book.proofs.Picked.{picked}
use Rattle.restricted_master.specs.inside.Choices.{IsSmallWeight}
use Rattle.restricted_master.specs.inside.Least.{IsLeastBelow, lighter, is_lighter}
use Rattle.restricted_master.proofs.Members.{true_or_false}

module _ (n : ℕ) (test : ℕ → Bool) (f : ℕ → ℤ) where
  -- one more that does not pass
  pub below_fail : (o : Option ℤ) → IsLeastBelow n test f o → test n ≡ false → IsLeastBelow (n + 1) test f o
  below_fail None least fails = λ i lt. elim (cases_eq i n) [
    | inl e ↦ ap test e ∙ fails
    | inr ne ↦ least i (omega (arith, lt, ne))
  ]
  below_fail (Some v) least fails = (
    λ i lt pass. elim (cases_eq i n) [
      | inl e ↦ absurd (both_ways (test i) (ap test e ∙ fails) pass)
      | inr ne ↦ least.0 i (omega (arith, lt, ne)) pass
    ],
    (let (i, lt, pass, is) = least.1 in (i, omega (arith, lt), pass, is)),
  )

  -- one more that passes
  pub below_pass : (o : Option ℤ) (w : ℤ) → IsLeastBelow n test f o → test n ≡ true → w ≡ f n → IsLeastBelow (n + 1) test f (lighter o w)
  below_pass None w least passes is = (
    λ i lt pass. elim (cases_eq i n) [
      | inl e ↦ (let at : f i ≡ f n = ap f e in omega (arith, ints, at, is))
      | inr ne ↦ absurd (both_ways (test i) (least i (omega (arith, lt, ne))) pass)
    ],
    (n, omega arith, passes, sym is),
  )
  below_pass (Some v) w least passes is = (
    λ i lt pass. elim (cases_eq i n) [
      | inl e ↦ (let at : f i ≡ f n = ap f e in omega (arith, ints, clamps, at, is))
      | inr ne ↦ (let before = least.0 i (omega (arith, lt, ne)) pass in omega (arith, ints, clamps, before))
    ],
    elim (picked (int_lt w v) v w) [
      | inl e ↦ (let (i, lt, pass, at) = least.1 in (i, omega (arith, lt), pass, at ∙ sym e))
      | inr e ↦ (n, omega arith, passes, sym is ∙ sym e)
    ],
  )

  -- one more that is no lighter, whether it passes or not
  pub below_dear : (o : Option ℤ) → IsLeastBelow n test f o → is_lighter (f n) o ≡ false → IsLeastBelow (n + 1) test f o
  below_dear None least dear = absurd (both_ways true dear refl)
  below_dear (Some v) least dear = (
    λ i lt pass. elim (cases_eq i n) [
      | inl e ↦ (let at : f i ≡ f n = ap f e in grind (arith, ints, at, dear))
      | inr ne ↦ least.0 i (omega (arith, lt, ne)) pass
    ],
    (let (i, lt, pass, is) = least.1 in (i, omega (arith, lt), pass, is)),
  )

  lighter_one : (o : Option ℤ) (w : ℤ) → is_lighter w o ≡ true → lighter o w ≡ Some w
  lighter_one None w light = refl
  lighter_one (Some v) w light = ap Some (ap (λ (b : Bool). cond b w v) light)

  -- one more that passes and is lighter
  pub below_light : (o : Option ℤ) (w : ℤ) → IsLeastBelow n test f o → test n ≡ true → w ≡ f n → is_lighter w o ≡ true → IsLeastBelow (n + 1) test f (Some w)
  below_light o w least passes is light =
      subst (λ (p : Option ℤ). IsLeastBelow (n + 1) test f p) (lighter_one o w light) (below_pass o w least passes is)

  -- where all that pass are small, so is the least
  pub small_least : (most : ℕ) (o : Option ℤ) → ((i : ℕ) → i < n → IsWithin (pos 0 -ℤ pos most) (pos most) (f i)) → IsLeastBelow n test f o → IsSmallWeight most o
  small_least most None small least = tt
  small_least most (Some v) small least =
      let (i, lt, pass, is) = least.1 in subst (λ (z : ℤ). IsWithin (pos 0 -ℤ pos most) (pos most) z) is (small i lt)

-- the same test and numbers under other names
pub below_same : (n : ℕ) (s t : ℕ → Bool) (f g : ℕ → ℤ) (o : Option ℤ) → ((i : ℕ) → i < n → s i ≡ t i) → ((i : ℕ) → i < n → f i ≡ g i)
    → IsLeastBelow n s f o → IsLeastBelow n t g o
below_same n s t f g None tests values least = λ i lt. sym (tests i lt) ∙ least i lt
below_same n s t f g (Some v) tests values least = (
  λ i lt pass. subst (λ (z : ℤ). v ≤ℤ z) (values i lt) (least.0 i lt (tests i lt ∙ pass)),
  (let (i, lt, pass, is) = least.1 in (i, lt, sym (tests i lt) ∙ pass, sym (values i lt) ∙ is)),
)

-- there is one least at most
pub below_one : (n : ℕ) (t : ℕ → Bool) (f : ℕ → ℤ) (o p : Option ℤ) → IsLeastBelow n t f o → IsLeastBelow n t f p → o ≡ p
below_one n t f None None one other = refl
below_one n t f None (Some w) one other = let (i, lt, pass, is) = other.1 in absurd (both_ways (t i) (one i lt) pass)
below_one n t f (Some v) None one other = let (i, lt, pass, is) = one.1 in absurd (both_ways (t i) (other i lt) pass)
below_one n t f (Some v) (Some w) one other =
    let (i, lt, pass, is) = one.1 in
    let (j, below, passes, at) = other.1 in
    let less = one.0 j below passes in
    let more = other.0 i lt pass in
    let same : v ≡ w = omega (arith, ints, less, more, is, at) in
    ap Some same

-- places of a list that has exactly the numbers below count that pass r
pub to_numbers : (count : ℕ) (xs : List ℕ) (r t : ℕ → Bool) (f : ℕ → ℤ) (o : Option ℤ)
    → ((p : ℕ) → p < length xs → (get_or xs p 0 < count) × (r (get_or xs p 0) ≡ true))
    → ((i : ℕ) → i < count → r i ≡ true → (p : ℕ) × (p < length xs) × (get_or xs p 0 ≡ i))
    → IsLeastBelow (length xs) (λ p. t (get_or xs p 0)) (λ p. f (get_or xs p 0)) o → IsLeastBelow count (λ i. r i && t i) f o
to_numbers count xs r t f None members places least = λ i lt. elim (true_or_false (r i)) [
  | inl pass ↦ (let (p, below, is) = places i lt pass in
      ap (λ (b : Bool). b && t i) pass ∙ sym (ap t is) ∙ least p below)
  | inr fails ↦ ap (λ (b : Bool). b && t i) fails
]
to_numbers count xs r t f (Some v) members places least = (
  λ i lt both.
      let (pass, passes) = and_parts (r i) (t i) both in
      let (p, below, is) = places i lt pass in
      subst (λ (z : ℤ). v ≤ℤ z) (ap f is) (least.0 p below (ap t is ∙ passes)),
  (let (p, below, pass, is) = least.1 in
      let (lt, member) = members p below in
      (get_or xs p 0, lt, and_from (r (get_or xs p 0)) (t (get_or xs p 0)) member pass, is)),
)
