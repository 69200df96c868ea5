-- What is chosen was undecided. Its aircraft may fly it: it is in a route of it that fits, or alive for it. And no Must gives it
-- to that aircraft: otherwise it would be alive for no other, so that no other route has it; and its own route has it, since a
-- route that fits has all its Musts. So it would be in exactly one route.
use Rattle.std.proofs.Common.{◌≡◌, ℕ, ◌<◌, ◌≤◌, inl, inr, true, false, arith, List, [], ◌∷◌, refl, sym, subst}
use Rattle.std.proofs.lemmas.Bool.{eqb-true, eq-eqb, or_cases, or_left, or_right, both_ways, cases_lt, cases_order}
use Rattle.std.proofs.lemmas.List.{get_or_past, get_or_default}
use Rattle.std.proofs.lemmas.List.Elements.{All-contains}
use Rattle.std.specs.Prelude.{nat_eq, All, Contains}
use Rattle.tail_book.specs.Seen.{BookSeen}
use Rattle.tail_book.specs.declared.place.Place.{Place}
use Rattle.tail_book.specs.declared.place.Place.TheVariants.{Carry, After}
use Rattle.tail_book.specs.declared.flown.Flown.TheVariants.{Once}
use Rattle.tail_book.specs.Lookup.{activities, aircraft}
use Rattle.tail_book.specs.Numbers.{contains}
use Rattle.tail_book.specs.Plan.{times_flown, route_of}
use Rattle.tail_book.specs.inside.Flown.{FlownIsCount, FlownOnceIsInOneRoute}
use Rattle.tail_book.specs.Place.{IsBefore}
use Rattle.tail_book.specs.inside.Rising.{LegalRoutesRise, IsRisingFrom}
use Rattle.tail_book.specs.inside.Sound.{IsBook}
use Rattle.branch_marks.specs.declared.fact.Fact.{Fact}
use Rattle.branch_marks.specs.declared.fact.Fact.TheVariants.{Must}
use Rattle.branch_marks.specs.declared.fact.Pair.TheVariants.{Fly}
use Rattle.branch_marks.specs.Branches.{IsUndecided}
use Rattle.branch_marks.specs.Marks.{LetsFly, LetsGo, LetsEnd, IsAlive, FitsFrom}
use Rattle.dive_heuristic.specs.LeastRoutes.{AreRoutesOfFleet, IsInOne}
use Rattle.dive_heuristic.specs.Choice.{IsCarrierOf, IsChoice}

module _ (book : BookSeen) (marks : List Fact) (k : ℕ) where
  -- what is in a route that fits is alive
  pub alive_along : (x : Place) (route : List ℕ) (a : ℕ) → FitsFrom book marks k x route → contains route a ≡ true → IsAlive book marks k a
  alive_along x [] a fits h = absurd (both_ways false refl h)
  alive_along x (b ∷ rest) a fits h = elim (or_cases (nat_eq a b) (contains rest a) h) [
    | inl here ↦ subst (λ (c : ℕ). IsAlive book marks k c) (sym (eqb-true a b here)) fits.0.after
    | inr there ↦ alive_along (After b) rest a fits.1 there
  ]

  -- a route that fits has each Must behind where it begins
  pub must_along : (x : Place) (route : List ℕ) (a : ℕ) → Contains marks (Must k a) → IsBefore x a → FitsFrom book marks k x route → contains route a ≡ true
  must_along x [] a must before fits = absurd (All-contains (LetsEnd k x) marks (Must k a) fits must refl before)
  must_along x (b ∷ rest) a must before fits =
      let up : b ≤ a = All-contains (LetsGo k x b) marks (Must k a) fits.0.facts must refl before in
      elim (cases_order b a) [
        | inl same ↦ or_left (nat_eq a b) (contains rest a) (eq-eqb a b (sym same))
        | inr o ↦ elim o [
          | inl below ↦ or_right (nat_eq a b) (contains rest a) (must_along (After b) rest a must below fits.1)
          | inr above ↦ absurd (omega (arith, up, above))
        ]
      ]

  -- whom a Must does not name may not fly it
  pub must_alone : (j a : ℕ) → Contains marks (Must k a) → IsAlive book marks j a → j ≡ k
  must_alone j a must alive = sym (All-contains (LetsFly j a) marks (Must k a) alive.facts must refl)

module _ (rise : LegalRoutesRise) (called : FlownIsCount) (one : FlownOnceIsInOneRoute) (book : BookSeen) (sound : IsBook book)
    (marks : List Fact) (routes : List (List ℕ)) (are : AreRoutesOfFleet book marks routes) where
  rising : All (IsRisingFrom (activities book) Carry) routes
  rising k d lt =
      let hk : k < aircraft book = omega (arith, lt, are.one_each) in
      subst (λ (r : List ℕ). IsRisingFrom (activities book) Carry r) (get_or_default routes k [] d lt)
      (rise book sound k (route_of routes k) (are.legal k hk))

  -- an aircraft whose route has something is of the book
  of_book : (j a : ℕ) → contains (route_of routes j) a ≡ true → j < aircraft book
  of_book j a has = elim (cases_lt j (aircraft book)) [
    | inl lt ↦ lt
    | inr le ↦ (let past : route_of routes j ≡ [] = get_or_past routes j [] (omega (arith, le, are.one_each)) in
        absurd (both_ways false refl (subst (λ (r : List ℕ). contains r a ≡ true) past has)))
  ]

  -- what a Must gives to an aircraft is in its route, and in no other
  must_in_one : (k a : ℕ) → k < aircraft book → Contains marks (Must k a) → IsInOne routes a
  must_in_one k a hk must =
      let here = must_along book marks k Carry (route_of routes k) a must tt (are.fits k hk) in
      let alone = λ (j : ℕ) (has : contains (route_of routes j) a ≡ true).
      must_alone book marks k j a must (alive_along book marks j Carry (route_of routes j) a (are.fits j (of_book j a has)) has) in
      (called (times_flown routes a) Once).0 ((one (activities book) routes rising a).1 (k, omega (arith, hk, are.one_each), here, alone))

  alive_carrier : (k a : ℕ) → IsCarrierOf book marks routes a k → (k < aircraft book) × IsAlive book marks k a
  alive_carrier k a (inl least) = (least.of_book, alive_along book marks k Carry (route_of routes k) a (are.fits k least.of_book) least.here)
  alive_carrier k a (inr least) = (least.1.of_book, least.1.here)

  pub chosen_undecided : (k a : ℕ) → IsChoice book marks routes k a → IsUndecided book marks (Fly k a)
  chosen_undecided k a choice =
      let (hk, alive) = alive_carrier k a choice.carrier in
      (alive, λ must. choice.here (must_in_one k a hk must))
