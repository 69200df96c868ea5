-- A legal route that fits has each activity that the aircraft must fly, and none that another must: so where all that a plan flies is
-- forced it has what the plan's route has, and as both rise they are the same.
use Rattle.std.specs.Prelude.{nat_eq, Contains, count_by}
use Rattle.std.proofs.Common.{◌≡◌, ◌≤◌, ◌<◌, ◌⊎◌, ℕ, zero, suc, true, false, List, [], ◌∷◌, inl, inr, refl, sym, subst, arith}
use Rattle.std.proofs.lemmas.Bool.{or_cases, or_left, or_right, both_ways, cases_eq, eq-eqb, eqb-true}
use Rattle.std.proofs.lemmas.List.Elements.{All-contains}
use Rattle.tail_book.specs.Seen.{BookSeen}
use Rattle.tail_book.specs.Lookup.{activities, aircraft}
use Rattle.tail_book.specs.Numbers.{contains}
use Rattle.tail_book.specs.Place.{IsBefore}
use Rattle.tail_book.specs.Plan.{IsLegalPlan, route_of}
use Rattle.tail_book.specs.Route.{IsLegalRoute}
use Rattle.tail_book.specs.declared.place.Place.{Place}
use Rattle.tail_book.specs.declared.place.Place.TheVariants.{Carry, After}
use Rattle.tail_book.specs.inside.Rising.{EachIsFlownOnce, IsRisingFrom, LegalRoutesRise}
use Rattle.tail_book.specs.inside.Sound.{IsBook}
use Rattle.tail_book.proofs.FlownOnce.{contained_from_count, contains_counts}
use Rattle.tail_book.proofs.RisingLists.{rising_once, rising_same}
use Rattle.branch_marks.specs.declared.fact.Fact.{Fact}
use Rattle.branch_marks.specs.declared.fact.Fact.TheVariants.{Must}
use Rattle.branch_marks.specs.Marks.{Fits, FitsFrom, IsAlive, LetsEnd, LetsFly, LetsGo}
use Rattle.branch_marks.proofs.Neighbours.{rising_contains}
use Rattle.quota_split.specs.ForcedRoutes.{AreForced}

none_or_one : (n : ℕ) → n ≤ 1 → (n ≡ 0) ⊎ (n ≡ 1)
none_or_one zero le = inl refl
none_or_one (suc zero) le = inr refl
none_or_one (suc (suc n)) le = absurd (omega (arith, le))

-- two rising lists that have the same numbers
pub same_numbers : (n : ℕ) (xs ys : List ℕ) → IsRisingFrom n Carry xs → IsRisingFrom n Carry ys
    → ((a : ℕ) → contains xs a ≡ true → contains ys a ≡ true) → ((a : ℕ) → contains ys a ≡ true → contains xs a ≡ true) → xs ≡ ys
same_numbers n xs ys up other forth back = rising_same n Carry Carry xs ys up other
    (λ a. elim (none_or_one (count_by (nat_eq a) xs) (rising_once n Carry xs a up)) [
      | inl none ↦ elim (none_or_one (count_by (nat_eq a) ys) (rising_once n Carry ys a other)) [
        | inl too ↦ omega (arith, none, too)
        | inr one ↦ (let least = contains_counts xs a (back a (contained_from_count ys a (omega (arith, one)))) in absurd (omega (arith, none, least)))
      ]
      | inr one ↦ (
          let least = contains_counts ys a (forth a (contained_from_count xs a (omega (arith, one)))) in
          let most = rising_once n Carry ys a other in
          omega (arith, one, least, most))
    ])

module _ (book : BookSeen) (marks : List Fact) (k : ℕ) where
  alive_in : (x : Place) (route : List ℕ) (a : ℕ) → FitsFrom book marks k x route → contains route a ≡ true → IsAlive book marks k a
  alive_in x [] a fits h = absurd (both_ways false refl h)
  alive_in x (b ∷ rest) a fits h = elim (or_cases (nat_eq a b) (contains rest a) h) [
    | inl here ↦ subst (λ (z : ℕ). IsAlive book marks k z) (sym (eqb-true a b here)) fits.0.after
    | inr there ↦ alive_in (After b) rest a fits.1 there
  ]

  must_in : (x : Place) (route : List ℕ) (a : ℕ) → FitsFrom book marks k x route → Contains marks (Must k a) → IsBefore x a → contains route a ≡ true
  must_in x [] a fits must before = absurd (All-contains (LetsEnd k x) marks (Must k a) fits must refl before)
  must_in x (b ∷ rest) a fits must before = elim (cases_eq a b) [
    | inl same ↦ or_left (nat_eq a b) (contains rest a) (eq-eqb a b same)
    | inr other ↦ (
        let le = All-contains (LetsGo k x b) marks (Must k a) fits.0.facts must refl before in
        or_right (nat_eq a b) (contains rest a) (must_in (After b) rest a fits.1 must (below b a le other)))
  ]
    where
      below : (b a : ℕ) → b ≤ a → ¬ (a ≡ b) → b < a
      below zero zero le not = absurd (not refl)
      below zero (suc a) le not = omega arith
      below (suc b) zero le not = absurd (omega (arith, le))
      below (suc b) (suc a) le not = let lt = below b a (omega (arith, le)) (λ e. not (omega (arith, e))) in omega (arith, lt)

  pub forced_route : LegalRoutesRise → EachIsFlownOnce → IsBook book → (plan : List (List ℕ)) → IsLegalPlan book plan → AreForced book marks plan
      → k < aircraft book → (route : List ℕ) → IsLegalRoute book k route → Fits book marks k route → route ≡ route_of plan k
  forced_route rise once sound plan legal forced lt route of_k fits =
      let up = rise book sound k route of_k in
      let planned = rise book sound k (route_of plan k) (legal.routes k lt) in
      same_numbers (activities book) route (route_of plan k) up planned
      (λ a h. (let alive = alive_in Carry route a fits h in
      let (j, jlt, has, only) = once book plan legal a (rising_contains (activities book) Carry route a up h).1 in
      let same = All-contains (LetsFly k a) marks (Must j a) alive.facts (forced j a jlt has) refl in
      subst (λ (i : ℕ). contains (route_of plan i) a ≡ true) same has))
      (λ a h. must_in Carry route a fits (forced k a lt h) tt)
