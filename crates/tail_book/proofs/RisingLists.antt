-- Numbers that rise strictly: each stands at most once, and two such lists with the same numbers are the same.
--
-- What follows a number is above it, so it does not come again. Two lists go by induction side by side. Were their
-- heads not the same, the lesser one would be missing from the other list; with equal heads, the rests have the same
-- numbers.
use Rattle.std.proofs.Common.{◌≡◌, ℕ, ◌+◌, ◌<◌, ◌≤◌, inl, inr, Bool, true, false, cond, arith, List, [], ◌∷◌, refl, ap, ap₂, ◌∙◌}
use Rattle.std.proofs.lemmas.Bool.{cases_Bool, cases_eq, cases_order}
use Rattle.std.proofs.lemmas.List.Sums.{sum_by-cons}
use Rattle.std.specs.Prelude.{count_by, nat_eq}
use Rattle.tail_book.specs.declared.place.Place.{Place}
use Rattle.tail_book.specs.declared.place.Place.TheVariants.{After}
use Rattle.tail_book.specs.Numbers.{contains}
use Rattle.tail_book.specs.inside.Rising.{IsRisingFrom}
use Rattle.tail_book.proofs.Sums.{count_here, count_other}
use Rattle.tail_book.proofs.FlownOnce.{contains_counts, contained_from_count}

-- nothing up to x comes after x
pub none_before : (n x : ℕ) (xs : List ℕ) (a : ℕ) → IsRisingFrom n (After x) xs → a ≤ x → count_by (nat_eq a) xs ≡ 0
none_before n x [] a rising le = refl
none_before n x (y ∷ ys) a rising le =
    count_other a y ys (λ e. absurd (omega (arith, e, le, rising.0))) ∙ none_before n y ys a rising.2 (omega (arith, le, rising.0))

-- nothing from n on stands in numbers below n
pub none_past : (n : ℕ) (x : Place) (xs : List ℕ) (a : ℕ) → IsRisingFrom n x xs → n ≤ a → count_by (nat_eq a) xs ≡ 0
none_past n x [] a rising le = refl
none_past n x (y ∷ ys) a rising le = count_other a y ys (λ e. absurd (omega (arith, e, le, rising.1))) ∙ none_past n (After y) ys a rising.2 le

pub rising_once : (n : ℕ) (x : Place) (xs : List ℕ) (a : ℕ) → IsRisingFrom n x xs → count_by (nat_eq a) xs ≤ 1
rising_once n x [] a rising = omega arith
rising_once n x (y ∷ ys) a rising = elim (cases_eq a y) [
  | inl e ↦ (let c = count_here a y ys e in let none = none_before n y ys a rising.2 (omega (arith, e)) in omega (arith, c, none))
  | inr ne ↦ (let c = count_other a y ys ne in let rest = rising_once n (After y) ys a rising.2 in omega (arith, c, rest))
]

pub contains_is : (xs : List ℕ) (a : ℕ) (b : Bool) → count_by (nat_eq a) xs ≡ cond b 1 0 → contains xs a ≡ b
contains_is xs a true e = contained_from_count xs a (omega (arith, e))
contains_is xs a false e = elim (cases_Bool (contains xs a)) [
  | inl t ↦ (let c = contains_counts xs a t in absurd (omega (arith, c, e)))
  | inr f ↦ f
]

tails_alike : (f g c d l m : ℕ) → f ≡ g → l ≡ f + c → m ≡ g + d → l ≡ m → c ≡ d
tails_alike f g c d l m e p q same = omega (arith, e, p, q, same)

-- the lesser head would be missing from the other list
missing_head : (n x y : ℕ) (xs ys : List ℕ) → x < y → IsRisingFrom n (After y) ys → count_by (nat_eq x) (x ∷ xs) ≡ count_by (nat_eq x) (y ∷ ys) → ⊥
missing_head n x y xs ys lt rising same =
    let here = count_here x x xs refl in
    let other = count_other x y ys (λ e. absurd (omega (arith, e, lt))) in
    let none = none_before n y ys x rising (omega (arith, lt)) in
    absurd (omega (arith, here, other, none, same))

pub rising_same : (n : ℕ) (p q : Place) (xs ys : List ℕ) → IsRisingFrom n p xs → IsRisingFrom n q ys
    → ((a : ℕ) → count_by (nat_eq a) xs ≡ count_by (nat_eq a) ys) → xs ≡ ys
rising_same n p q [] [] rx ry same = refl
rising_same n p q [] (y ∷ ys) rx ry same = let c = count_here y y ys refl in let s : 0 ≡ count_by (nat_eq y) (y ∷ ys) = same y in absurd (omega (arith, c, s))
rising_same n p q (x ∷ xs) [] rx ry same = let c = count_here x x xs refl in let s : count_by (nat_eq x) (x ∷ xs) ≡ 0 = same x in absurd (omega (arith, c, s))
rising_same n p q (x ∷ xs) (y ∷ ys) rx ry same = elim (cases_order x y) [
  | inl e ↦ ap₂ (λ (h : ℕ) (t : List ℕ). h ∷ t) e (rising_same n (After x) (After y) xs ys rx.2 ry.2
      (λ a. tails_alike _ _ _ _ _ _ (ap (λ z. cond (nat_eq a z) 1 0) e)
      (sum_by-cons (λ z. cond (nat_eq a z) 1 0) x xs) (sum_by-cons (λ z. cond (nat_eq a z) 1 0) y ys) (same a)))
  | inr o ↦ elim o [
    | inl less ↦ absurd (missing_head n x y xs ys less ry.2 (same x))
    | inr more ↦ absurd (missing_head n y x ys xs more rx.2 (turned _ _ (same y)))
  ]
]
  where
    turned : (m l : ℕ) → m ≡ l → l ≡ m
    turned m l e = omega (arith, e)
