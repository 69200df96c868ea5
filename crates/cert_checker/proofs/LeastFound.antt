-- What is found among all rising lists of numbers is the least weight of those that pass, by induction on how many numbers there are:
-- a list begins with the first of them, and then its rest is a list of the others, or it does not. Legal routes rise, so the
-- least of those that fit is found among them.
use Rattle.std.specs.Prelude.{if◌then◌else◌}
use Rattle.std.proofs.Common.{◌≡◌, ◌⊎◌, ◌+◌, ◌≤ℤ◌, ℕ, zero, suc, ℤ, inl, inr, Bool, true, false, arith, List, [], ◌∷◌, Option, Some, None, refl, sym, ap, subst}
use Rattle.std.proofs.lemmas.Bool.{and_from, and_parts, both_ways, cases_order}
use Rattle.std.proofs.lemmas.Int.{ints, by_lt_z}
use Rattle.tail_book.specs.Lookup.{activities}
use Rattle.tail_book.specs.Numbers.{int_le}
use Rattle.tail_book.specs.Seen.{BookSeen}
use Rattle.tail_book.specs.CostTable.{costs_of}
use Rattle.tail_book.specs.LegalTests.{is_legal_route}
use Rattle.tail_book.specs.Route.{IsLegalRoute}
use Rattle.tail_book.specs.inside.Rising.{LegalRoutesRise}
use Rattle.tail_book.specs.inside.Sound.{IsBook}
use Rattle.tail_book.specs.inside.Tests.{LegalRouteDecides}
use Rattle.tail_book.proofs.Deciding.{int_le_tested}
use Rattle.branch_marks.specs.Marks.{Fits}
use Rattle.branch_marks.specs.MarkTests.{fits}
use Rattle.branch_marks.specs.Weights.{weight}
use Rattle.branch_marks.specs.declared.fact.Fact.{Fact}
use Rattle.branch_marks.specs.inside.MarkTests.{FitsDecides}
use Rattle.branch_marks.proofs.LeastRoutes.{IsInRange, rising_in_whole_range}
use Rattle.cert_checker.specs.LeastWeight.{IsFoundWeight, is_fitting_route, least_weight, lesser, lightest}

-- without the first number of the range, or with it and a list in the rest
begins_or_not : (low high : ℕ) (xs : List ℕ) → IsInRange low high xs → IsInRange (low + 1) high xs ⊎ ((rest : List ℕ) × (xs ≡ low ∷ rest) × IsInRange (low + 1) high rest)
begins_or_not low high [] h = inl tt
begins_or_not low high (x ∷ xs) h = elim (cases_order x low) [
  | inl e ↦ inr (xs, ap (λ (y : ℕ). y ∷ xs) e, subst (λ (y : ℕ). IsInRange (y + 1) high xs) e h.2)
  | inr o ↦ elim o [
    | inl below ↦ absurd (omega (arith, below, h.0))
    | inr above ↦ inl (omega (arith, above), h.1, h.2)
  ]
]

-- a list that passes weighs this, and none in the range that passes weighs less
record IsLeastIn (low high : ℕ) (test : List ℕ → Bool) (weigh : List ℕ → ℤ) (value : ℤ) : Type 0 where
  list : List ℕ
  passes : test list ≡ true
  weighs : weigh list ≡ value
  least : (xs : List ℕ) → IsInRange low high xs → test xs ≡ true → value ≤ℤ weigh xs

abbrev IsFoundIn : ℕ → ℕ → (List ℕ → Bool) → (List ℕ → ℤ) → Option ℤ → Type 0
IsFoundIn low high test weigh None = (xs : List ℕ) → IsInRange low high xs → test xs ≡ false
IsFoundIn low high test weigh (Some value) = IsLeastIn low high test weigh value

module _ (low high : ℕ) (test : List ℕ → Bool) (weigh : List ℕ → ℤ) where
  abbrev test_with : List ℕ → Bool
  test_with = λ xs. test (low ∷ xs)

  abbrev weigh_with : List ℕ → ℤ
  weigh_with = λ xs. weigh (low ∷ xs)

  -- what holds of the lists of both kinds holds of all
  by_both : (P : List ℕ → Type 0) → ((xs : List ℕ) → IsInRange (low + 1) high xs → P xs) → ((rest : List ℕ) → IsInRange (low + 1) high rest → P (low ∷ rest))
      → (xs : List ℕ) → IsInRange low high xs → P xs
  by_both P without with xs inside = elim (begins_or_not low high xs inside) [
    | inl h ↦ without xs h
    | inr h ↦ (let (rest, e, in_rest) = h in subst P (sym e) (with rest in_rest))
  ]

  lesser_of : (one other : ℤ) (test_of : Bool) → int_le one other ≡ test_of → IsLeastIn (low + 1) high test weigh one → IsLeastIn (low + 1) high test_with weigh_with other
      → IsLeastIn low high test weigh (if test_of then one else other)
  lesser_of one other true e without with =
      let at_most : one ≤ℤ other = (int_le_tested one other).0 e in
      record {
        list = without.list;
        passes = without.passes;
        weighs = without.weighs;
        least = by_both (λ (xs : List ℕ). test xs ≡ true → one ≤ℤ weigh xs) without.least
            (λ rest inside passes. let more = with.least rest inside passes in omega (arith, ints, at_most, more));
      }
  lesser_of one other false e without with =
      let above : (one ≤ℤ other → ⊥) = λ most. both_ways (int_le one other) e ((int_le_tested one other).1 most) in
      let at_most : other ≤ℤ one = below one other above in
      record {
        list = low ∷ with.list;
        passes = with.passes;
        weighs = with.weighs;
        least = by_both (λ (xs : List ℕ). test xs ≡ true → other ≤ℤ weigh xs)
            (λ xs inside passes. let more = without.least xs inside passes in omega (arith, ints, at_most, more)) with.least;
      }
    where
      below : (a b : ℤ) → (a ≤ℤ b → ⊥) → b ≤ℤ a
      below a b not_so = elim (by_cases a b) [
        | inl h ↦ absurd (not_so h)
        | inr h ↦ h
      ]
        where
          by_cases : (a b : ℤ) → (a ≤ℤ b) ⊎ (b ≤ℤ a)
          by_cases a b = by_lt_z a b (λ l. inl (omega (arith, ints, l))) (λ h. inr h)

  found_of : (one other : Option ℤ) → IsFoundIn (low + 1) high test weigh one → IsFoundIn (low + 1) high test_with weigh_with other → IsFoundIn low high test weigh (lesser one other)
  found_of None None without with = by_both (λ (xs : List ℕ). test xs ≡ false) without with
  found_of None (Some other) without with = record {
    list = low ∷ with.list;
    passes = with.passes;
    weighs = with.weighs;
    least = by_both (λ (xs : List ℕ). test xs ≡ true → other ≤ℤ weigh xs) (λ xs inside passes. absurd (both_ways (test xs) (without xs inside) passes)) with.least;
  }
  found_of (Some one) None without with = record {
    list = without.list;
    passes = without.passes;
    weighs = without.weighs;
    least = by_both (λ (xs : List ℕ). test xs ≡ true → one ≤ℤ weigh xs) without.least (λ rest inside passes. absurd (both_ways (test (low ∷ rest)) (with rest inside) passes));
  }
  found_of (Some one) (Some other) without with = lesser_of one other (int_le one other) refl without with

found : (count low high : ℕ) → low + count ≡ high → (test : List ℕ → Bool) (weigh : List ℕ → ℤ) → IsFoundIn low high test weigh (lightest count low test weigh)
unfolding lightest
found zero low high e test weigh = by_test (test []) refl
  where
    none_more : (x : ℕ) (xs : List ℕ) → IsInRange low high (x ∷ xs) → ⊥
    none_more x xs inside = let from = inside.0 in let below = inside.1 in omega (arith, e, from, below)

    by_test : (t : Bool) → test [] ≡ t → IsFoundIn low high test weigh (if t then Some (weigh []) else None)
    by_test true is = record { list = []; passes = is; weighs = refl; least = only }
      where
        only : (xs : List ℕ) → IsInRange low high xs → test xs ≡ true → weigh [] ≤ℤ weigh xs
        only [] inside passes = omega (arith, ints)
        only (x ∷ xs) inside passes = absurd (none_more x xs inside)
    by_test false is = none
      where
        none : (xs : List ℕ) → IsInRange low high xs → test xs ≡ false
        none [] inside = is
        none (x ∷ xs) inside = absurd (none_more x xs inside)
found (suc count) low high e test weigh =
    found_of low high test weigh (lightest count (low + 1) test weigh) (lightest count (low + 1) (λ rest. test (low ∷ rest)) (λ rest. weigh (low ∷ rest)))
    (found count (low + 1) high (omega (arith, e)) test weigh)
    (found count (low + 1) high (omega (arith, e)) (λ rest. test (low ∷ rest)) (λ rest. weigh (low ∷ rest)))

module _ (rise : LegalRoutesRise) (legal : LegalRouteDecides) (fit : FitsDecides) where
  pub weight_found : (book : BookSeen) → IsBook book → (marks : List Fact) (k : ℕ) (duals : List ℤ) → IsFoundWeight book marks k duals (least_weight book marks k duals)
  weight_found book sound marks k duals =
      by_found (least_weight book marks k duals) (found (activities book) 0 (activities book) (omega arith) (is_fitting_route book marks k) (weight (costs_of book) book k duals))
    where
      passes : (route : List ℕ) → IsLegalRoute book k route → Fits book marks k route → is_fitting_route book marks k route ≡ true
      passes route l f = and_from (is_legal_route book k route) (fits book marks k route) ((legal book k route).1 l) ((fit book marks k route).1 f)

      inside : (route : List ℕ) → IsLegalRoute book k route → IsInRange 0 (activities book) route
      inside route l = rising_in_whole_range (activities book) route (rise book sound k route l)

      by_found : (value : Option ℤ) → IsFoundIn 0 (activities book) (is_fitting_route book marks k) (weight (costs_of book) book k duals) value → IsFoundWeight book marks k duals value
      by_found None none = λ route l f. both_ways (is_fitting_route book marks k route) (none route (inside route l)) (passes route l f)
      by_found (Some value) best =
          let parts = and_parts (is_legal_route book k best.list) (fits book marks k best.list) best.passes in
          record {
            least = λ route l f. best.least route (inside route l) (passes route l f);
            attained = (best.list, record { legal = (legal book k best.list).0 parts.0; fits = (fit book marks k best.list).0 parts.1; weighs = best.weighs });
          }
