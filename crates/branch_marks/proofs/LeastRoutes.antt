-- Among the rising lists of numbers in a range that pass a test there is a lightest, or none passes. By induction on how many
-- numbers the range has: a list begins with the first of them, and then its rest is a list in the rest of the range, or it does not.
use Rattle.std.specs.Prelude.{⊤}
use Rattle.std.proofs.Common.{◌≡◌, ◌⊎◌, ◌<◌, ◌≤◌, ◌+◌, ◌≤ℤ◌, ℕ, zero, suc, ℤ, inl, inr, Bool, true, false, arith, List, [], ◌∷◌, sym, ap, subst}
use Rattle.std.proofs.lemmas.Int.{ints, by_lt_z}
use Rattle.std.proofs.lemmas.Bool.{cases_Bool, cases_order, both_ways}
use Rattle.tail_book.specs.declared.place.Place.TheVariants.{Carry, After}
use Rattle.tail_book.specs.inside.Rising.{IsRisingFrom}

-- the numbers rise, from low on and below high
abbrev pub IsInRange : ℕ → ℕ → List ℕ → Type 0
IsInRange low high [] = ⊤
IsInRange low high (x ∷ xs) = (low ≤ x) × (x < high) × IsInRange (x + 1) high xs

pub rising_in_range : (n : ℕ) (x : ℕ) (route : List ℕ) → IsRisingFrom n (After x) route → IsInRange (x + 1) n route
rising_in_range n x [] rise = tt
rising_in_range n x (b ∷ rest) rise = (omega (arith, rise.0), rise.1, rising_in_range n b rest rise.2)

pub rising_in_whole_range : (n : ℕ) (route : List ℕ) → IsRisingFrom n Carry route → IsInRange 0 n route
rising_in_whole_range n [] rise = tt
rising_in_whole_range n (b ∷ rest) rise = (omega arith, rise.1, rising_in_range n b rest rise.2)

wider : (low high : ℕ) (xs : List ℕ) → IsInRange (low + 1) high xs → IsInRange low high xs
wider low high [] h = tt
wider low high (x ∷ xs) h = (omega (arith, h.0), h.1, h.2)

-- without the first number of the range, or with it and a list in the rest
begins_or_not : (low high : ℕ) (xs : List ℕ) → IsInRange low high xs → IsInRange (low + 1) high xs ⊎ ((rest : List ℕ) × (xs ≡ low ∷ rest) × IsInRange (low + 1) high rest)
begins_or_not low high [] h = inl tt
begins_or_not low high (x ∷ xs) h = elim (cases_order x low) [
  | inl e ↦ inr (xs, ap (λ (y : ℕ). y ∷ xs) e, subst (λ (y : ℕ). IsInRange (y + 1) high xs) e h.2)
  | inr o ↦ elim o [
    | inl below ↦ absurd (omega (arith, below, h.0))
    | inr above ↦ inl (omega (arith, above), h.1, h.2)
  ]
]

-- the list is in the range, passes, and no other that does is lighter
pub record IsLightest (low high : ℕ) (test : List ℕ → Bool) (weight : List ℕ → ℤ) (xs : List ℕ) : Type 0 where
  pub inside : IsInRange low high xs
  pub passes : test xs ≡ true
  pub least : (others : List ℕ) → IsInRange low high others → test others ≡ true → weight xs ≤ℤ weight others

abbrev pub NonePasses : ℕ → ℕ → (List ℕ → Bool) → Type 0
NonePasses low high test = (xs : List ℕ) → IsInRange low high xs → test xs ≡ false

abbrev pub HasLightest : ℕ → ℕ → (List ℕ → Bool) → (List ℕ → ℤ) → Type 0
HasLightest low high test weight = NonePasses low high test ⊎ ((xs : List ℕ) × IsLightest low high test weight xs)

module _ (low high : ℕ) (test : List ℕ → Bool) (weight : List ℕ → ℤ) (lt : low < high) where
  -- what begins with the first number
  abbrev WithFirst : (List ℕ → Bool)
  WithFirst = λ xs. test (low ∷ xs)

  abbrev weight_with : (List ℕ → ℤ)
  weight_with = λ xs. weight (low ∷ xs)

  none_of_both : NonePasses (low + 1) high test → NonePasses (low + 1) high WithFirst → NonePasses low high test
  none_of_both without with xs inside = elim (begins_or_not low high xs inside) [
    | inl h ↦ without xs h
    | inr h ↦ (let (rest, e, in_rest) = h in subst (λ (ys : List ℕ). test ys ≡ false) (sym e) (with rest in_rest))
  ]

  lightest_without : (xs : List ℕ) → IsLightest (low + 1) high test weight xs
      → ((rest : List ℕ) → IsInRange (low + 1) high rest → test (low ∷ rest) ≡ true → weight xs ≤ℤ weight (low ∷ rest)) → IsLightest low high test weight xs
  lightest_without xs best less = record {
    inside = wider low high xs best.inside;
    passes = best.passes;
    least = λ others inside passes. elim (begins_or_not low high others inside) [
      | inl h ↦ best.least others h passes
      | inr h ↦ (let (rest, e, in_rest) = h in
          subst (λ (ys : List ℕ). weight xs ≤ℤ weight ys) (sym e) (less rest in_rest (subst (λ (ys : List ℕ). test ys ≡ true) e passes)))
    ];
  }

  lightest_with : (rest : List ℕ) → IsLightest (low + 1) high WithFirst weight_with rest
      → ((xs : List ℕ) → IsInRange (low + 1) high xs → test xs ≡ true → weight (low ∷ rest) ≤ℤ weight xs) → IsLightest low high test weight (low ∷ rest)
  lightest_with rest best less = record {
    inside = (omega arith, lt, best.inside);
    passes = best.passes;
    least = λ others inside passes. elim (begins_or_not low high others inside) [
      | inl h ↦ less others h passes
      | inr h ↦ (let (more, e, in_rest) = h in
          subst (λ (ys : List ℕ). weight (low ∷ rest) ≤ℤ weight ys) (sym e) (best.least more in_rest (subst (λ (ys : List ℕ). test ys ≡ true) e passes)))
    ];
  }

  chained : (a b c : ℤ) → a ≤ℤ b → b ≤ℤ c → a ≤ℤ c
  chained a b c h k = omega (arith, ints, h, k)

  under : (a b : ℤ) → (a ≤ℤ b) ⊎ (b ≤ℤ a)
  under a b = by_lt_z a b (λ l. inl (omega (arith, ints, l))) (λ h. inr h)

  lighter : HasLightest (low + 1) high test weight → HasLightest (low + 1) high WithFirst weight_with → HasLightest low high test weight
  lighter (inl without) (inl with) = inl (none_of_both without with)
  lighter (inl without) (inr with) =
      let (rest, best) = with in
      inr (low ∷ rest, lightest_with rest best (λ xs inside passes. absurd (both_ways (test xs) (without xs inside) passes)))
  lighter (inr without) (inl with) =
      let (xs, best) = without in
      inr (xs, lightest_without xs best (λ rest inside passes. absurd (both_ways (test (low ∷ rest)) (with rest inside) passes)))
  lighter (inr without) (inr with) =
      let (xs, best) = without in
      let (rest, other) = with in
      elim (under (weight xs) (weight (low ∷ rest))) [
        | inl h ↦ inr (xs, lightest_without xs best (λ more inside passes. chained (weight xs) (weight (low ∷ rest)) (weight (low ∷ more)) h (other.least more inside passes)))
        | inr h ↦ inr (low ∷ rest, lightest_with rest other (λ ys inside passes. chained (weight (low ∷ rest)) (weight xs) (weight ys) h (best.least ys inside passes)))
      ]

pub lightest : (count low high : ℕ) → low + count ≡ high → (test : List ℕ → Bool) (weight : List ℕ → ℤ) → HasLightest low high test weight
lightest zero low high e test weight = elim (cases_Bool (test [])) [
  | inl t ↦ inr ([], record { inside = tt; passes = t; least = only })
  | inr f ↦ inl (none f)
]
  where
    only : (others : List ℕ) → IsInRange low high others → test others ≡ true → weight [] ≤ℤ weight others
    only [] inside passes = omega (arith, ints)
    only (x ∷ xs) inside passes = absurd (omega (arith, e, inside.0, inside.1))

    none : test [] ≡ false → (xs : List ℕ) → IsInRange low high xs → test xs ≡ false
    none f [] inside = f
    none f (x ∷ xs) inside = absurd (omega (arith, e, inside.0, inside.1))
lightest (suc count) low high e test weight =
    lighter low high test weight (omega (arith, e)) (lightest count (low + 1) high (omega (arith, e)) test weight)
    (lightest count (low + 1) high (omega (arith, e)) (λ xs. test (low ∷ xs)) (λ xs. weight (low ∷ xs)))
