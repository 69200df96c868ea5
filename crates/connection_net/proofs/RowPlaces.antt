-- A list of numbers by its places, by induction over it: its first number stands at place 0, and what stands in the rest
-- stands one place further on. Where the numbers rise below n, each of them is asked to be below n.
use Rattle.std.specs.Prelude.{nat_eq}
use Rattle.std.proofs.Common.{◌≡◌, ℕ, zero, suc, ◌<◌, true, false, refl, inl, inr, List, [], ◌∷◌, length, get_or, sym, arith}
use Rattle.std.proofs.lemmas.Bool.{both_ways, eqb-true, eq-eqb, or_cases, or_left, or_right}
use Rattle.tail_book.specs.declared.place.Place.{Place}
use Rattle.tail_book.specs.declared.place.Place.TheVariants.{After}
use Rattle.tail_book.specs.Numbers.{contains}
use Rattle.tail_book.specs.inside.Rising.{IsRisingFrom}

pub contained : (xs : List ℕ) (i d : ℕ) → i < length xs → contains xs (get_or xs i d) ≡ true
contained [] i d lt = absurd (omega (arith, lt))
contained (x ∷ xs) zero d lt = or_left (nat_eq x x) (contains xs x) (eq-eqb x x refl)
contained (x ∷ xs) (suc i) d lt = or_right (nat_eq (get_or xs i d) x) (contains xs (get_or xs i d)) (contained xs i d (omega (arith, lt)))

pub stands_at : (xs : List ℕ) (y : ℕ) → contains xs y ≡ true → (i : ℕ) × (i < length xs) × (get_or xs i 0 ≡ y)
stands_at [] y h = absurd (both_ways false refl h)
stands_at (x ∷ xs) y h = elim (or_cases (nat_eq y x) (contains xs y) h) [
  | inl t ↦ (0, omega arith, sym (eqb-true y x t))
  | inr t ↦ (let (i, lt, e) = stands_at xs y t in (suc i, omega (arith, lt), e))
]

pub rising_below : (n : ℕ) (p : Place) (xs : List ℕ) (y : ℕ) → IsRisingFrom n p xs → contains xs y ≡ true → y < n
rising_below n p [] y r h = absurd (both_ways false refl h)
rising_below n p (z ∷ zs) y r h = elim (or_cases (nat_eq y z) (contains zs y) h) [
  | inl t ↦ (let e = eqb-true y z t in let lt = r.1 in omega (arith, e, lt))
  | inr t ↦ rising_below n (After z) zs y r.2 t
]
