-- Numbers below n of which none stands twice are at most n: none counts twice, so they differ, and there are no more
-- than n different numbers below n.
use Rattle.std.proofs.Common.{◌≡◌, ◌∙◌, ℕ, ◌+◌, ◌<◌, ◌≤◌, ◌||◌, Bool, true, false, cond, List, [], ◌∷◌, length, refl, sym, arith, nat_lt}
use Rattle.std.proofs.lemmas.Bool.{eq-eqb, eqb-true, ltb-true}
use Rattle.std.proofs.lemmas.Bool.Decides.{nat_tests}
use Rattle.std.proofs.lemmas.List.Elements.{All-head, All-tail}
use Rattle.std.proofs.lemmas.List.Sums.{sum_by-cons}
use Rattle.std.proofs.lemmas.Map.Steps.{length-le_from_distinct_below}
use Rattle.std.specs.List.{All, AllByRecursion, IsDistinct, list_any}
use Rattle.std.specs.Prelude.{count_by, nat_eq}

abbrev times : ℕ → List ℕ → ℕ
times a xs = count_by (nat_eq a) xs

times-cons : (a x : ℕ) (xs : List ℕ) → times a (x ∷ xs) ≡ cond (nat_eq a x) 1 0 + times a xs
times-cons a x xs = sum_by-cons (λ y. cond (nat_eq a y) 1 0) x xs

-- a number that no member counts for is none of them
uncounted : (test : Bool) (n : ℕ) → cond test 1 0 + n ≡ 0 → (test ≡ false) × (n ≡ 0)
uncounted true n e = absurd (omega (arith, e))
uncounted false n e = (refl, omega (arith, e))

apart : (a : ℕ) (xs : List ℕ) → times a xs ≡ 0 → AllByRecursion (λ y. nat_eq a y ≡ false) xs
apart a [] e = tt
apart a (x ∷ xs) e = let both = uncounted (nat_eq a x) (times a xs) (sym (times-cons a x xs) ∙ e) in (both.0, apart a xs both.1)

own : (test : Bool) (n : ℕ) → test ≡ true → cond test 1 0 + n ≤ 1 → n ≡ 0
own true n e h = omega arith
own false n e h = cc e

fewer : (test : Bool) (n : ℕ) → cond test 1 0 + n ≤ 1 → n ≤ 1
fewer true n h = omega arith
fewer false n h = omega arith

-- where none counts twice, all differ
distinct : (xs : List ℕ) → ((a : ℕ) → times a xs ≤ 1) → IsDistinct nat_eq xs
unfolding IsDistinct
distinct [] once = tt
distinct (x ∷ xs) once =
    let here : cond (nat_eq x x) 1 0 + times x xs ≤ 1 = rw (times-cons x x xs) at (once x) in
    (apart x xs (own (nat_eq x x) (times x xs) (eq-eqb x x refl) here), distinct xs (λ a. fewer (nat_eq a x) (times a xs) (rw (times-cons a x xs) at (once a))))

either : (q x : ℕ) (test rest : Bool) → nat_eq q x ≡ test → (test || rest) ≡ true → (n : ℕ) → x < n → (rest ≡ true → q < n) → q < n
either q x true rest is e n here there = let same : q ≡ x = eqb-true q x is in omega arith
either q x false rest is e n here there = there e

member_below : (n : ℕ) (xs : List ℕ) → All (λ a. a < n) xs → (q : ℕ) → list_any (nat_eq q) xs ≡ true → q < n
member_below n [] below q e = cc e
member_below n (x ∷ xs) below q e =
    either q x (nat_eq q x) (list_any (nat_eq q) xs) refl e n (All-head (λ a. a < n) x xs below) (member_below n xs (All-tail (λ a. a < n) x xs below) q)

not_counted : (n a : ℕ) (xs : List ℕ) → All (λ b. b < n) xs → n ≤ a → times a xs ≡ 0
not_counted n a [] below out = refl
not_counted n a (x ∷ xs) below out =
    let here : x < n = All-head (λ b. b < n) x xs below in
    times-cons a x xs ∙ none (nat_eq a x) (times a xs) refl (not_counted n a xs (All-tail (λ b. b < n) x xs below) out)
  where
    none : (test : Bool) (m : ℕ) → nat_eq a x ≡ test → m ≡ 0 → cond test 1 0 + m ≡ 0
    none true m is e = let same : a ≡ x = eqb-true a x is in let lt : x < n = All-head (λ b. b < n) x xs below in absurd (omega arith)
    none false m is e = omega arith

-- numbers below n of which none stands twice are at most n
pub at_most : (n : ℕ) (xs : List ℕ) → All (λ a. a < n) xs → ((a : ℕ) → a < n → times a xs ≤ 1) → length xs ≤ n
at_most n xs below once = length-le_from_distinct_below xs n (distinct xs (λ a. each a (nat_lt a n) refl)) (member_below n xs below)
  where
    each : (a : ℕ) (test : Bool) → nat_lt a n ≡ test → times a xs ≤ 1
    each a true is = once a (ltb-true a n is)
    each a false is = let none = not_counted n a xs below (grind (arith, nat_tests)) in omega (arith, none)
