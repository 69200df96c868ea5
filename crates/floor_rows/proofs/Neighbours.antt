-- A usable link is a link, so it is one of the network. The predecessors of b rise, and what is not among them brings nothing:
-- so the least over them is the least over all numbers below b.
use Rattle.std.specs.Prelude.{⊤, All, ◌||◌, nat_eq}
use Rattle.std.proofs.Common.{◌≡◌, ◌∙◌, ℕ, zero, suc, ℤ, ◌+◌, ◌<◌, ◌≤◌, inl, inr, Bool, true, false, arith, List, [], ◌∷◌, get_or, refl, sym, ap, subst, Option, None}
use Rattle.std.specs.List.{list_any, range_with_len}
use Rattle.std.proofs.lemmas.Bool.{cases_order, both_ways, eq-eqb, eqb-true, ne_eqb, and_parts, and_from, or_left, or_right, or_cases, false_from_ne_true}
use Rattle.tail_book.specs.Seen.{BookSeen}
use Rattle.tail_book.specs.declared.place.Place.{Place}
use Rattle.tail_book.specs.declared.place.Place.TheVariants.{Carry, After}
use Rattle.tail_book.specs.Lookup.{activities}
use Rattle.tail_book.specs.Numbers.{contains}
use Rattle.tail_book.specs.inside.Rising.{IsRisingFrom, LinksRise}
use Rattle.tail_book.specs.Counters.{step}
use Rattle.tail_book.specs.inside.Sound.{IsBook}
use Rattle.tail_book.specs.LegalTests.{within_limits}
use Rattle.tail_book.specs.inside.Tests.{LimitsDecide}
use Rattle.connection_net.specs.inside.Laws.{PredecessorsAreLinks, SuccessorsAreLinks, RowsAreTheirPlaces, RowsRise}
use Rattle.connection_net.specs.Net.{net_of, predecessors_in, successors_in}
use Rattle.branch_marks.specs.declared.fact.Fact.{Fact}
use Rattle.branch_marks.specs.MarkTests.{is_usable}
use Rattle.branch_marks.specs.inside.MarkTests.{UsableDecides}
use Rattle.branch_marks.specs.Floors.{lesser_floor}
use Rattle.floor_rows.specs.inside.LeastOver.{least_over, brought}
use Rattle.floor_rows.specs.inside.Neighbours.{goes_on_to, goes_on_from, SuccessorsTell}
use Rattle.floor_rows.proofs.LeastOver.{least_none}
use Rattle.floor_rows.proofs.Brought.{unusable_brings}

-- the numbers of the list rise, from x on
RisesFrom : ℕ → List ℕ → Type 0
RisesFrom x [] = ⊤
RisesFrom x (y ∷ ys) = (x ≤ y) × RisesFrom (suc y) ys

abbrev first_after : Place → ℕ
first_after Carry = 0
first_after (After x) = suc x

rises : (n : ℕ) (p : Place) (xs : List ℕ) → IsRisingFrom n p xs → RisesFrom (first_after p) xs
unfolding RisesFrom
rises n p [] r = tt
rises n Carry (y ∷ ys) r = (omega arith, rises n (After y) ys r.2)
rises n (After x) (y ∷ ys) r = (let before = r.0 in omega (arith, before), rises n (After y) ys r.2)

below_none : (x y : ℕ) (xs : List ℕ) → RisesFrom x xs → y < x → contains xs y ≡ false
unfolding RisesFrom
below_none x y [] r lt = refl
below_none x y (z ∷ zs) r lt =
    ap (λ (t : Bool). t || contains zs y) (ne_eqb y z (λ e. let le = r.0 in absurd (omega (arith, e, le, lt))))
    ∙ below_none (suc z) y zs r.1 (let le = r.0 in omega (arith, le, lt))

module _ (h : ℕ → Option (List ℤ)) where
  -- the least over a list that rises is the least over all numbers, where those that it leaves out bring nothing
  least_among : (n x : ℕ) (xs : List ℕ) → RisesFrom x xs → ((y : ℕ) → contains xs y ≡ true → y < x + n)
      → ((y : ℕ) → x ≤ y → y < x + n → contains xs y ≡ false → h y ≡ None) → least_over h xs ≡ least_over h (range_with_len x n)
  unfolding RisesFrom
  least_among zero x [] r most none = refl
  least_among zero x (y ∷ ys) r most none =
      let here = most y (or_left (nat_eq y y) (contains ys y) (eq-eqb y y refl)) in
      let le = r.0 in
      absurd (omega (arith, here, le))
  least_among (suc n) x [] r most none = sym (least_none h x (suc n) (λ y le lt. none y le lt refl))
  least_among (suc n) x (y ∷ ys) r most none = elim (cases_order x y) [
    | inl e ↦ (
        ap (λ (z : ℕ). lesser_floor (h z) (least_over h ys)) (sym e)
        ∙ ap (λ (rest : Option (List ℤ)). lesser_floor (h x) rest)
        (least_among n (x + 1) ys (subst (λ (z : ℕ). RisesFrom z ys) (omega (arith, e)) r.1)
        (λ z at. let lt = most z (or_right (nat_eq z y) (contains ys z) at) in omega (arith, lt))
        (λ z le lt out. none z (omega (arith, le)) (omega (arith, lt))
        (ap (λ (t : Bool). t || contains ys z) (ne_eqb z y (λ same. absurd (omega (arith, same, le, e)))) ∙ out))))
    | inr o ↦ elim o [
      | inl less ↦ (
          least_among n (x + 1) (y ∷ ys) (omega (arith, less), r.1)
          (λ z at. let lt = most z at in omega (arith, lt)) (λ z le lt out. none z (omega (arith, le)) (omega (arith, lt)) out)
          ∙ ap (λ (one : Option (List ℤ)). lesser_floor one (least_over h (range_with_len (x + 1) n)))
          (sym (none x (omega arith) (omega arith) (below_none y x (y ∷ ys) (omega arith, r.1) less))))
      | inr more ↦ (let le = r.0 in absurd (omega (arith, le, more)))
    ]
  ]

module _ (places : RowsAreTheirPlaces) (links : PredecessorsAreLinks) (rise : LinksRise) (rows : (book : BookSeen) → RowsRise book) (book : BookSeen) (sound : IsBook book) (b : ℕ) (lt : b < activities book) where
  comes_before : (x : ℕ) → contains (predecessors_in (net_of book) b) x ≡ true → x < b
  comes_before x at =
      let (k, here, link) = (links book x b).0 at in
      rise book sound k x b (places.below (activities book) Carry (predecessors_in (net_of book) b) x ((rows book).predecessors b) at) lt link

  pub come_before : All (λ x. x < b) (predecessors_in (net_of book) b)
  come_before = λ i d within. comes_before (get_or (predecessors_in (net_of book) b) i d) (places.has (predecessors_in (net_of book) b) i d within)

  pub bring_all : UsableDecides → (marks : List Fact) (k : ℕ) (floor : ℕ → Option (List ℤ))
      → least_over (brought book marks k b floor) (predecessors_in (net_of book) b) ≡ least_over (brought book marks k b floor) (range_with_len 0 b)
  bring_all usable marks k floor =
      least_among (brought book marks k b floor) b 0 (predecessors_in (net_of book) b)
      (rises (activities book) Carry (predecessors_in (net_of book) b) ((rows book).predecessors b))
      (λ y at. let less = comes_before y at in omega (arith, less))
      (λ y le less out. unusable_brings book marks k (After y) b (floor y)
      (false_from_ne_true (is_usable book marks k (After y) b) (λ t.
      let link = (usable book marks k (After y) b).0 t in
      both_ways (contains (predecessors_in (net_of book) b) y) out ((links book y b).1 (k, link.after.allowed.aircraft, link.link)))))

pub of_book : RowsAreTheirPlaces → ((book : BookSeen) → RowsRise book) → (book : BookSeen) (a : ℕ) → All (λ b. b < activities book) (successors_in (net_of book) a)
of_book places rows book a = λ i d within.
    places.below (activities book) Carry (successors_in (net_of book) a) (get_or (successors_in (net_of book) a) i d) ((rows book).successors a)
    (places.has (successors_in (net_of book) a) i d within)

pub before_of_book : RowsAreTheirPlaces → ((book : BookSeen) → RowsRise book) → (book : BookSeen) (b : ℕ) → All (λ a. a < activities book) (predecessors_in (net_of book) b)
before_of_book places rows book b = λ i d within.
    places.below (activities book) Carry (predecessors_in (net_of book) b) (get_or (predecessors_in (net_of book) b) i d) ((rows book).predecessors b)
    (places.has (predecessors_in (net_of book) b) i d within)

-- a test that holds of what is contained holds of some, and one that holds of none holds of nothing contained
some_holds : (p : ℕ → Bool) (xs : List ℕ) (y : ℕ) → contains xs y ≡ true → p y ≡ true → list_any p xs ≡ true
some_holds p [] y at h = at
some_holds p (x ∷ xs) y at h = elim (or_cases (nat_eq y x) (contains xs y) at) [
  | inl t ↦ or_left (p x) (list_any p xs) (ap p (sym (eqb-true y x t)) ∙ h)
  | inr t ↦ or_right (p x) (list_any p xs) (some_holds p xs y t h)
]

holds_some : (p : ℕ → Bool) (xs : List ℕ) → list_any p xs ≡ true → (y : ℕ) × (contains xs y ≡ true) × (p y ≡ true)
holds_some p [] h = absurd (both_ways false refl h)
holds_some p (x ∷ xs) h = elim (or_cases (p x) (list_any p xs) h) [
  | inl t ↦ (x, or_left (nat_eq x x) (contains xs x) (eq-eqb x x refl), t)
  | inr t ↦ (let (y, at, holds) = holds_some p xs t in (y, or_right (nat_eq y x) (contains xs y) at, holds))
]

module _ (places : RowsAreTheirPlaces) (links : SuccessorsAreLinks) (rows : (book : BookSeen) → RowsRise book) (usable : UsableDecides) (limits : LimitsDecide)
    (book : BookSeen) (marks : List Fact) (k a : ℕ) (values : List ℤ) where
  pub tell : SuccessorsTell book marks k a values
  tell = record {
    goes = λ t none. let (b, at, on) = holds_some (goes_on_to book marks k a values) (successors_in (net_of book) a) t in
        let (link, within) = and_parts (is_usable book marks k (After a) b) (within_limits book.rules.counters (step book k (After a) b values)) on in
        none b (places.below (activities book) Carry (successors_in (net_of book) a) b ((rows book).successors a) at)
        ((usable book marks k (After a) b).0 link) ((limits book.rules.counters (step book k (After a) b values)).0 within);
    none = λ t b lt link within.
        both_ways (goes_on_from book marks k a values) t
        (some_holds (goes_on_to book marks k a values) (successors_in (net_of book) a) b ((links book a b).1 (k, link.after.allowed.aircraft, link.link))
        (and_from (is_usable book marks k (After a) b) (within_limits book.rules.counters (step book k (After a) b values))
        ((usable book marks k (After a) b).1 link) ((limits book.rules.counters (step book k (After a) b values)).1 within)));
  }
