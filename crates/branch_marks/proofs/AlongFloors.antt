-- Along a legal route that fits there is a floor at each activity, at or below the counters there: what the route can do
-- with its counters, it could do with those of the floor.
use Rattle.std.proofs.Common.{◌≡◌, ℕ, ℤ, ◌<◌, ◌⊎◌, inl, inr, true, false, List, [], ◌∷◌, refl, sym, subst, Some}
use Rattle.std.proofs.lemmas.Bool.{eqb-true, or_cases, and_parts, both_ways}
use Rattle.std.specs.Prelude.{nat_eq, ◌&&◌}
use Rattle.tail_book.specs.Seen.{BookSeen}
use Rattle.tail_book.specs.declared.place.Place.{Place}
use Rattle.tail_book.specs.declared.place.Place.TheVariants.{After}
use Rattle.tail_book.specs.Lookup.{activities, aircraft}
use Rattle.tail_book.specs.Numbers.{contains}
use Rattle.tail_book.specs.Counters.{step, WithinLimits}
use Rattle.tail_book.specs.CounterOrder.{EachAtMost}
use Rattle.tail_book.specs.inside.Order.{EachAtMostChains, StepsKeepOrder, LowerStaysWithin}
use Rattle.tail_book.specs.Route.{IsLegalFrom}
use Rattle.tail_book.specs.inside.Sound.{IsBook}
use Rattle.branch_marks.specs.declared.fact.Fact.{Fact}
use Rattle.branch_marks.specs.Facts.{begins, directly}
use Rattle.branch_marks.specs.Marks.{IsAlive, IsUsable, MayEnd, FitsFrom}
use Rattle.branch_marks.specs.Floors.{floor_at, FloorsAreLow}

-- what a route that fits has is alive
pub alive_along : (book : BookSeen) (marks : List Fact) (k : ℕ) (x : Place) (rest : List ℕ) (a : ℕ) → FitsFrom book marks k x rest → contains rest a ≡ true → IsAlive book marks k a
alive_along book marks k x [] a fits h = absurd (both_ways false refl h)
alive_along book marks k x (b ∷ rest) a fits h = elim (or_cases (nat_eq a b) (contains rest a) h) [
  | inl e ↦ subst (λ (c : ℕ). IsAlive book marks k c) (sym (eqb-true a b e)) fits.0.after
  | inr t ↦ alive_along book marks k (After b) rest a fits.1 t
]

-- and its links are usable
usable_first : (book : BookSeen) (marks : List Fact) (k : ℕ) (a : ℕ) (rest : List ℕ) (c : ℕ) → FitsFrom book marks k (After a) rest → begins rest c ≡ true → IsUsable book marks k (After a) c
usable_first book marks k a [] c fits h = absurd (both_ways false refl h)
usable_first book marks k a (b ∷ rest) c fits h = subst (λ (d : ℕ). IsUsable book marks k (After a) d) (sym (eqb-true c b h)) fits.0

pub usable_along : (book : BookSeen) (marks : List Fact) (k : ℕ) (x : Place) (rest : List ℕ) (a c : ℕ) → FitsFrom book marks k x rest → directly rest a c ≡ true → IsUsable book marks k (After a) c
usable_along book marks k x [] a c fits h = absurd (both_ways false refl h)
usable_along book marks k x (b ∷ rest) a c fits h = elim (or_cases (nat_eq a b && begins rest c) (directly rest a c) h) [
  | inl q ↦ (let (first, next) = and_parts (nat_eq a b) (begins rest c) q in
      subst (λ (d : ℕ). IsUsable book marks k (After d) c) (sym (eqb-true a b first)) (usable_first book marks k b rest c fits.1 next))
  | inr t ↦ usable_along book marks k (After b) rest a c fits.1 t
]

-- aircraft k may go on from x to c with these values
abbrev pub CanGo : BookSeen → List Fact → ℕ → Place → ℕ → List ℤ → Type 0
CanGo book marks k x c values = IsUsable book marks k x c × WithinLimits book.rules.counters (step book k x c values)

-- with these values at a aircraft k may end there or go on
abbrev pub EndsOrGoes : BookSeen → List Fact → ℕ → ℕ → List ℤ → Type 0
EndsOrGoes book marks k a values = MayEnd marks k (After a) ⊎ ((b : ℕ) × (b < activities book) × CanGo book marks k (After a) b values)

-- the floor at a, and what can be done with it
abbrev pub HasFloor : BookSeen → List Fact → ℕ → ℕ → (List ℤ → Type 0) → Type 0
HasFloor book marks k a Can = (low : List ℤ) × (floor_at book marks k (After a) ≡ Some low) × Can low

module _ (low_floors : FloorsAreLow) (chains : EachAtMostChains) (order : StepsKeepOrder) (within : LowerStaysWithin)
    (book : BookSeen) (sound : IsBook book) (marks : List Fact) (k : ℕ) (hk : k < aircraft book) where
  -- a step within the limits is so from lower values
  goes_lower : (x : Place) (b : ℕ) (low values : List ℤ) → EachAtMost low values → WithinLimits book.rules.counters (step book k x b values)
      → WithinLimits book.rules.counters (step book k x b low)
  goes_lower x b low values under h = within book.rules.counters (step book k x b low) (step book k x b values) (order book k x b low values under) h

  -- the floor at the next activity of a route is at or below the counters there
  next_floor : (x : Place) (low values : List ℤ) (b : ℕ) → floor_at book marks k x ≡ Some low → EachAtMost low values → b < activities book
      → CanGo book marks k x b values → HasFloor book marks k b (λ next. EachAtMost next (step book k x b values))
  next_floor x low values b known under lt can =
      let (next, is, below) = low_floors book sound marks k hk x b low lt (record { usable = can.0; floor = known; within = goes_lower x b low values under can.1 }) in
      (next, is, chains next (step book k x b low) (step book k x b values) below (order book k x b low values under))

  ends_or_goes : (a : ℕ) (low values : List ℤ) (rest : List ℕ) → EachAtMost low values → IsLegalFrom book k (After a) values rest → FitsFrom book marks k (After a) rest
      → EndsOrGoes book marks k a low
  ends_or_goes a low values [] under legal fits = inl fits
  ends_or_goes a low values (b ∷ rest) under legal fits = inr (b, legal.0, (fits.0, goes_lower (After a) b low values under legal.2))

  goes_first : (a : ℕ) (low values : List ℤ) (rest : List ℕ) (c : ℕ) → EachAtMost low values → IsLegalFrom book k (After a) values rest → FitsFrom book marks k (After a) rest
      → begins rest c ≡ true → CanGo book marks k (After a) c low
  goes_first a low values [] c under legal fits h = absurd (both_ways false refl h)
  goes_first a low values (b ∷ rest) c under legal fits h =
      subst (λ (d : ℕ). CanGo book marks k (After a) d low) (sym (eqb-true c b h)) (fits.0, goes_lower (After a) b low values under legal.2)

  -- at each activity of the rest there is a floor, with which the aircraft can end or go on
  pub floor_along : (x : Place) (low values : List ℤ) (rest : List ℕ) (a : ℕ) → floor_at book marks k x ≡ Some low → EachAtMost low values
      → IsLegalFrom book k x values rest → FitsFrom book marks k x rest → contains rest a ≡ true → HasFloor book marks k a (EndsOrGoes book marks k a)
  floor_along x low values [] a known under legal fits h = absurd (both_ways false refl h)
  floor_along x low values (b ∷ rest) a known under legal fits h =
      let (next, is, below) = next_floor x low values b known under legal.0 (fits.0, legal.2) in
      elim (or_cases (nat_eq a b) (contains rest a) h) [
        | inl e ↦ subst (λ (d : ℕ). HasFloor book marks k d (EndsOrGoes book marks k d)) (sym (eqb-true a b e))
            (next, is, ends_or_goes b next (step book k x b values) rest below legal.3 fits.1)
        | inr t ↦ floor_along (After b) next (step book k x b values) rest a is below legal.3 fits.1 t
      ]

  -- and at each of its neighbours, with which it can go from the first to the second
  pub pair_along : (x : Place) (low values : List ℤ) (rest : List ℕ) (a c : ℕ) → floor_at book marks k x ≡ Some low → EachAtMost low values
      → IsLegalFrom book k x values rest → FitsFrom book marks k x rest → directly rest a c ≡ true → HasFloor book marks k a (CanGo book marks k (After a) c)
  pair_along x low values [] a c known under legal fits h = absurd (both_ways false refl h)
  pair_along x low values (b ∷ rest) a c known under legal fits h =
      let (next, is, below) = next_floor x low values b known under legal.0 (fits.0, legal.2) in
      elim (or_cases (nat_eq a b && begins rest c) (directly rest a c) h) [
        | inl q ↦ (let (first, second) = and_parts (nat_eq a b) (begins rest c) q in
            subst (λ (d : ℕ). HasFloor book marks k d (CanGo book marks k (After d) c)) (sym (eqb-true a b first))
            (next, is, goes_first b next (step book k x b values) rest c below legal.3 fits.1 second))
        | inr t ↦ pair_along (After b) next (step book k x b values) rest a c is below legal.3 fits.1 t
      ]
