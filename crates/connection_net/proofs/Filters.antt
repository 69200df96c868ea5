-- The numbers below n that pass a test. With n one larger the list has n at its end where n passes, as the range grows
-- at its end. And where a test asks for another one, it may be asked of those alone that pass the other: by induction
-- over the list, what the other drops would not have passed.
use Rattle.std.proofs.Common.{◌≡◌, ◌∙◌, ℕ, zero, suc, ◌+◌, arith, ap, refl, sym, Bool, true, false, List, [], ◌∷◌, ◌++◌, map}
use Rattle.std.specs.Prelude.{cond}
use Rattle.std.specs.List.{filter, range_with_len}
use Rattle.std.proofs.lemmas.Bool.{both_ways}
use Rattle.std.proofs.lemmas.List.Elements.{filter-append}
use Rattle.std.proofs.lemmas.List.FromFn.{map-range_with_len_more}

-- a list is the map of its own numbers
itself : (a n : ℕ) → map (λ i. i) (range_with_len a n) ≡ range_with_len a n
itself a zero = refl
itself a (suc n) = ap (λ xs. a ∷ xs) (itself (a + 1) n)

range_more : (n : ℕ) → range_with_len 0 (n + 1) ≡ range_with_len 0 n ++ n ∷ []
range_more n = sym (itself 0 (n + 1)) ∙ map-range_with_len_more (λ i. i) 0 n n (omega arith) ∙ ap (λ xs. xs ++ n ∷ []) (itself 0 n)

-- one number more
pub filter_range_more : (p : ℕ → Bool) (n : ℕ) → filter p (range_with_len 0 (n + 1)) ≡ filter p (range_with_len 0 n) ++ cond (p n) (n ∷ []) []
filter_range_more p n = ap (filter p) (range_more n) ∙ filter-append p (range_with_len 0 n) (n ∷ [])

-- a test that asks for another may be asked of those that pass the other
step_within : (p q : ℕ → Bool) (x : ℕ) (xs : List ℕ) (a b : Bool) → p x ≡ a → q x ≡ b → (a ≡ true → b ≡ true) → filter p (filter q xs) ≡ filter p xs
    → filter p (cond b (x ∷ filter q xs) (filter q xs)) ≡ cond a (x ∷ filter p xs) (filter p xs)
step_within p q x xs true true pa qb asks rest = rw pa (ap (λ ys. x ∷ ys) rest)
step_within p q x xs false true pa qb asks rest = rw pa rest
step_within p q x xs true false pa qb asks rest = absurd (both_ways false refl (asks refl))
step_within p q x xs false false pa qb asks rest = rest

pub filter_within : (p q : ℕ → Bool) → ((x : ℕ) → p x ≡ true → q x ≡ true) → (xs : List ℕ) → filter p (filter q xs) ≡ filter p xs
filter_within p q asks [] = refl
filter_within p q asks (x ∷ xs) = step_within p q x xs (p x) (q x) refl refl (asks x) (filter_within p q asks xs)
