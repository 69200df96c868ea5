-- What comes directly after what in a route and in a plan. Neighbours in a route of a plan are neighbours in the plan,
-- and the other way round, by induction over the routes. Where numbers rise, what a route has lies behind its place,
-- and of two neighbours the second is larger. So of a whole route the rest from any place on tells what the whole has
-- behind that place: what is passed lies up to the place and is not met again, by induction along the route.
use Rattle.std.proofs.Common.{◌≡◌, ℕ, zero, suc, ◌<◌, ◌≤◌, inl, inr, ◌⊎◌, true, false, arith, List, [], ◌∷◌, length, refl, sym}
use Rattle.std.proofs.lemmas.Bool.{eqb-true, eq-eqb, or_cases, or_left, or_right, and_from, and_parts, both_ways}
use Rattle.std.specs.Prelude.{nat_eq, ◌&&◌}
use Rattle.tail_book.specs.declared.place.Place.{Place}
use Rattle.tail_book.specs.declared.place.Place.TheVariants.{Carry, After}
use Rattle.tail_book.specs.Numbers.{contains}
use Rattle.tail_book.specs.Place.{IsBefore}
use Rattle.tail_book.specs.Plan.{route_of}
use Rattle.tail_book.specs.inside.Rising.{IsRisingFrom}
use Rattle.branch_marks.specs.Facts.{begins, directly, joins}
use Rattle.branch_marks.specs.Marks.{IsAt}

-- what a route begins with is in it
pub begins_contains : (route : List ℕ) (b : ℕ) → begins route b ≡ true → contains route b ≡ true
begins_contains [] b h = h
begins_contains (first ∷ rest) b h = or_left (nat_eq b first) (contains rest b) h

-- and so are both of two neighbours
pub first_contained : (a b : ℕ) (route : List ℕ) → directly route a b ≡ true → contains route a ≡ true
first_contained a b [] h = h
first_contained a b (first ∷ rest) h = elim (or_cases (nat_eq a first && begins rest b) (directly rest a b) h) [
  | inl t ↦ or_left (nat_eq a first) (contains rest a) (and_parts (nat_eq a first) (begins rest b) t).0
  | inr t ↦ or_right (nat_eq a first) (contains rest a) (first_contained a b rest t)
]

pub second_contained : (a b : ℕ) (route : List ℕ) → directly route a b ≡ true → contains route b ≡ true
second_contained a b [] h = h
second_contained a b (first ∷ rest) h = or_right (nat_eq b first) (contains rest b)
    (elim (or_cases (nat_eq a first && begins rest b) (directly rest a b) h) [
      | inl t ↦ begins_contains rest b (and_parts (nat_eq a first) (begins rest b) t).1
      | inr t ↦ second_contained a b rest t
    ])

-- neighbours in a route of the plan are joined in the plan
pub joins_of_route : (plan : List (List ℕ)) (k a b : ℕ) → directly (route_of plan k) a b ≡ true → joins plan a b ≡ true
joins_of_route [] k a b h = absurd (both_ways false refl h)
joins_of_route (route ∷ plan) zero a b h = or_left (directly route a b) (joins plan a b) h
joins_of_route (route ∷ plan) (suc k) a b h = or_right (directly route a b) (joins plan a b) (joins_of_route plan k a b h)

-- and what is joined in the plan are neighbours in one of its routes
pub route_of_joins : (plan : List (List ℕ)) (a b : ℕ) → joins plan a b ≡ true → (k : ℕ) × (k < length plan) × (directly (route_of plan k) a b ≡ true)
route_of_joins [] a b h = absurd (both_ways false refl h)
route_of_joins (route ∷ plan) a b h = elim (or_cases (directly route a b) (joins plan a b) h) [
  | inl t ↦ (0, omega arith, t)
  | inr t ↦ (let (k, lt, d) = route_of_joins plan a b t in (suc k, omega (arith, lt), d))
]

-- the other side of `IsBefore`
abbrev pub IsUpTo : Place → ℕ → Type 0
IsUpTo Carry c = ⊥
IsUpTo (After x) c = c ≤ x

pub before_later : (x : Place) (b c : ℕ) → IsBefore x b → b ≤ c → IsBefore x c
before_later Carry b c h le = tt
before_later (After x) b c h le = omega (arith, h, le)

pub not_both : (x : Place) (c : ℕ) → IsUpTo x c → IsBefore x c → ⊥
not_both Carry c u h = u
not_both (After x) c u h = absurd (omega (arith, u, h))

pub up_to_later : (x : Place) (b c : ℕ) → IsBefore x b → IsUpTo x c → c ≤ b
up_to_later Carry b c h u = absurd u
up_to_later (After x) b c h u = omega (arith, h, u)

pub up_to_itself : (x : Place) (a : ℕ) → IsAt x a → IsUpTo x a
up_to_itself Carry a at = at
up_to_itself (After x) a at = omega (arith, at)

pub at_before : (x : Place) (a c : ℕ) → IsAt x a → a < c → IsBefore x c
at_before Carry a c at lt = absurd at
at_before (After x) a c at lt = omega (arith, at, lt)

-- each number of a rising route lies behind its place, below n
pub rising_contains : (n : ℕ) (x : Place) (route : List ℕ) (c : ℕ) → IsRisingFrom n x route → contains route c ≡ true → IsBefore x c × (c < n)
rising_contains n x [] c rise h = absurd (both_ways false refl h)
rising_contains n x (b ∷ rest) c rise h = elim (or_cases (nat_eq c b) (contains rest c) h) [
  | inl t ↦ (let e : c ≡ b = eqb-true c b t in (before_later x b c rise.0 (omega (arith, e)), omega (arith, e, rise.1)))
  | inr t ↦ (let later = rising_contains n (After b) rest c rise.2 t in (before_later x b c rise.0 (omega (arith, later.0)), later.1))
]

-- of two neighbours in it the second is larger
pub directly_rises : (n : ℕ) (x : Place) (route : List ℕ) (a c : ℕ) → IsRisingFrom n x route → directly route a c ≡ true → a < c
directly_rises n x [] a c rise h = absurd (both_ways false refl h)
directly_rises n x (b ∷ rest) a c rise h = elim (or_cases (nat_eq a b && begins rest c) (directly rest a c) h) [
  | inl t ↦ (let (first, next) = and_parts (nat_eq a b) (begins rest c) t in
      let e : a ≡ b = eqb-true a b first in
      let later = (rising_contains n (After b) rest c rise.2 (begins_contains rest c next)).0 in
      omega (arith, e, later))
  | inr t ↦ directly_rises n (After b) rest a c rise.2 t
]

-- the rest of a whole route, from a place of it on: what is in the whole and which neighbours it has, told by the rest
pub record IsWithin (whole : List ℕ) (x : Place) (rest : List ℕ) : Type 0 where
  pub back : (c : ℕ) → contains whole c ≡ true → IsUpTo x c ⊎ (contains rest c ≡ true)
  pub forth : (c : ℕ) → contains rest c ≡ true → contains whole c ≡ true
  pub here : (a : ℕ) → IsAt x a → contains whole a ≡ true
  pub pairs_back : (a c : ℕ) → directly whole a c ≡ true → IsUpTo x c ⊎ ((IsAt x a × (begins rest c ≡ true)) ⊎ (directly rest a c ≡ true))
  pub pair : (a c : ℕ) → IsAt x a → begins rest c ≡ true → directly whole a c ≡ true
  pub pairs : (a c : ℕ) → directly rest a c ≡ true → directly whole a c ≡ true

-- the whole route is its own rest from the carry-in on
pub starts_within : (route : List ℕ) → IsWithin route Carry route
starts_within route = record {
  back = λ c h. inr h;
  forth = λ c h. h;
  here = λ a h. absurd h;
  pairs_back = λ a c h. inr (inr h);
  pair = λ a c h k. absurd h;
  pairs = λ a c h. h;
}

-- and one activity further on what follows it is the rest
pub next_within : (whole : List ℕ) (x : Place) (b : ℕ) (rest : List ℕ) → IsBefore x b → IsWithin whole x (b ∷ rest) → IsWithin whole (After b) rest
next_within whole x b rest before w = record {
  back = λ c h. elim (w.back c h) [
    | inl u ↦ inl (up_to_later x b c before u)
    | inr t ↦ elim (or_cases (nat_eq c b) (contains rest c) t) [
      | inl e ↦ inl (let same : c ≡ b = eqb-true c b e in omega (arith, same))
      | inr r ↦ inr r
    ]
  ];
  forth = λ c h. w.forth c (or_right (nat_eq c b) (contains rest c) h);
  here = λ a e. w.forth a (or_left (nat_eq a b) (contains rest a) (eq-eqb a b (sym e)));
  pairs_back = λ a c h. elim (w.pairs_back a c h) [
    | inl u ↦ inl (up_to_later x b c before u)
    | inr s ↦ elim s [
      | inl p ↦ inl (let same : c ≡ b = eqb-true c b p.1 in omega (arith, same))
      | inr t ↦ elim (or_cases (nat_eq a b && begins rest c) (directly rest a c) t) [
        | inl q ↦ (let (first, next) = and_parts (nat_eq a b) (begins rest c) q in inr (inl (sym (eqb-true a b first), next)))
        | inr d ↦ inr (inr d)
      ]
    ]
  ];
  pair = λ a c e h. w.pairs a c (or_left (nat_eq a b && begins rest c) (directly rest a c) (and_from (nat_eq a b) (begins rest c) (eq-eqb a b (sym e)) h));
  pairs = λ a c h. w.pairs a c (or_right (nat_eq a b && begins rest c) (directly rest a c) h);
}
