-- Numbers that pass a test, found by a look at each in turn: one that passes comes behind those before it, which are
-- all smaller, and one that fails leaves the list as it is.
use Rattle.std.proofs.Common.{◌≡◌, ◌∙◌, ◌↔◌, ◌⊎◌, inl, inr, sym, ap, arith, ℕ, zero, suc, ◌+◌, ◌<◌, Bool, true, false, List, [], ◌∷◌, ◌++◌, length, get_or, Contains, length-append}
use Rattle.std.proofs.lemmas.Bool.{false≢true}
use Rattle.std.proofs.lemmas.List.{get_or_append_left, get_or_default}
use Rattle.std.proofs.lemmas.List.Elements.{Contains-append_cases, Contains-append_left, Contains-append_right}
use Rattle.std.proofs.Math.Seq.{get_or-append_seam}
use Rattle.std.specs.Prelude.{if◌then◌else◌}
use Rattle.std.specs.List.Sorted.{IsStrictlyIncreasing}

-- the numbers below k that pass, and no others, in rising order
pub record AreFound (p : ℕ → Bool) (k : ℕ) (found : List ℕ) : Type 0 where
  pub exactly : (j : ℕ) → Contains found j ↔ ((j < k) × (p j ≡ true))
  pub rising : IsStrictlyIncreasing found

next_or_last : (i n : ℕ) → i < n + 1 → (i < n) ⊎ (i ≡ n)
next_or_last i n h = grind arith

only : (k j : ℕ) → Contains (k ∷ []) j → k ≡ j
only k j (zero, within, is) = is
only k j (suc i, within, is) = absurd (omega arith)

-- a number behind smaller ones
rises : (k : ℕ) (found : List ℕ) → IsStrictlyIncreasing found → ((j : ℕ) → Contains found j → j < k) → IsStrictlyIncreasing (found ++ k ∷ [])
rises k found up below i h = elim (next_or_last (i + 1) (length found) (omega (arith, length-append found (k ∷ [])))) [
  | inl inside ↦
      let right : get_or (found ++ k ∷ []) (i + 1) 0 ≡ get_or found (i + 1) 0 = get_or_append_left found (k ∷ []) 0 (i + 1) inside in
      omega (arith, left (omega (arith, inside)), right, up i inside)
  | inr last ↦
      let right : get_or (found ++ k ∷ []) (i + 1) 0 ≡ k = rw last (get_or-append_seam found k [] 0) in
      let small : get_or found i 0 < k = below (get_or found i 0) (i, omega (arith, last), get_or_default found i (get_or found i 0) 0 (omega (arith, last))) in
      omega (arith, left (omega (arith, last)), right, small)
]
  where
    left : i < length found → get_or (found ++ k ∷ []) i 0 ≡ get_or found i 0
    left lt = get_or_append_left found (k ∷ []) 0 i lt

-- one look more
pub found-next : (p : ℕ → Bool) (k : ℕ) (may : Bool) (found now : List ℕ) → may ≡ p k → now ≡ (if may then found ++ k ∷ [] else found)
    → AreFound p k found → AreFound p (k + 1) now
found-next p k true found now is e so_far = rw e (record {
  exactly = λ j. (to j, from j);
  rising = rises k found so_far.rising (λ j has. ((so_far.exactly j).0 has).0);
})
  where
    to : (j : ℕ) → Contains (found ++ k ∷ []) j → (j < k + 1) × (p j ≡ true)
    to j has = elim (Contains-append_cases found (k ∷ []) j has) [
      | inl before ↦ (omega (arith, ((so_far.exactly j).0 before).0), ((so_far.exactly j).0 before).1)
      | inr last ↦ (omega (arith, only k j last), ap p (sym (only k j last)) ∙ sym is)
    ]

    from : (j : ℕ) → (j < k + 1) × (p j ≡ true) → Contains (found ++ k ∷ []) j
    from j passes = elim (next_or_last j k passes.0) [
      | inl before ↦ Contains-append_left found (k ∷ []) j ((so_far.exactly j).1 (before, passes.1))
      | inr last ↦ Contains-append_right found (k ∷ []) j (0, omega arith, sym last)
    ]
found-next p k false found now is e so_far = rw e (record {
  exactly = λ j. (to j, from j);
  rising = so_far.rising;
})
  where
    to : (j : ℕ) → Contains found j → (j < k + 1) × (p j ≡ true)
    to j has = (omega (arith, ((so_far.exactly j).0 has).0), ((so_far.exactly j).0 has).1)

    from : (j : ℕ) → (j < k + 1) × (p j ≡ true) → Contains found j
    from j passes = elim (next_or_last j k passes.0) [
      | inl before ↦ (so_far.exactly j).1 (before, passes.1)
      | inr last ↦ absurd (false≢true (is ∙ ap p (sym last) ∙ passes.1))
    ]
