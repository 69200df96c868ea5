-- Legs of a plan, and sums along them.
--
-- What the routes of all aircraft come to is what the legs come to in reading order, whatever a leg counts. By
-- induction on the names as they are met: an activity adds the same to the route of its aircraft and to the legs, and
-- no aircraft is met twice, so a route is counted once. What a plan costs and how often it flies an activity are two
-- such sums.
use Rattle.std.proofs.Common.{◌≡◌, ◌≢◌, ◌∙◌, sym, refl, ap, arith, subst, true≢false, ℕ, zero, suc, ◌+◌, ◌<◌, ◌≤◌, inl, inr, Bool, true, false, ◌||◌, cond, if◌then◌else◌, nat_eq, List, [], ◌∷◌, map, All}
use Rattle.std.specs.Prelude.{count_by}
use Rattle.std.specs.List.{IsDistinct, AllByRecursion, range_with_len, sum_by, flat_map}
use Rattle.std.proofs.lemmas.Bool.{cases_Bool, eq-eqb, eqb-true}
use Rattle.std.proofs.lemmas.Bool.Decides.{nat_tests}
use Rattle.std.proofs.lemmas.List.Elements.{All-nil, All-cons, All-head, All-tail}
use Rattle.std.proofs.lemmas.List.Sums.{sum_by-cons, sum_by-append}
use Rattle.std.proofs.lemmas.Map.Keys.{IsDistinct-head, IsDistinct-tail}
use Rattle.tail_book.specs.Seen.{BookSeen, RawPlanSeen}
use Rattle.tail_book.specs.Numbers.{contains}
use Rattle.tail_book.specs.Lookup.{activities, aircraft}
use Rattle.tail_book.specs.declared.place.Place.{Place}
use Rattle.tail_book.specs.declared.place.Place.TheVariants.{Carry, After}
use Rattle.tail_book.specs.Cost.{activity_cost, connection_cost, cost_from, cost_of_routes, plan_cost}
use Rattle.tail_book.specs.Plan.{times_flown}
use Rattle.tail_book.specs.Place.{IsPlaceOf}
use Rattle.plan_audit.specs.declared.leg.Leg.{Leg}
use Rattle.plan_audit.specs.declared.met.Met.{Met}
use Rattle.plan_audit.specs.declared.met.Met.TheVariants.{Unknown, Twice, Tail, Activity}
use Rattle.plan_audit.specs.inside.Met.{IsMetOf}
use Rattle.plan_audit.specs.Met.{tails_met, activities_met, names_met}
use Rattle.plan_audit.specs.Kept.{next_route, route_met, kept, legs_from, legs_met}
use Rattle.plan_audit.specs.inside.Kept.{IsLegOf}
use Rattle.plan_audit.specs.inside.LegCost.{legs_cost}
use Rattle.plan_audit.proofs.WellMet.{IsWellMet, names_well_met}

legs-of_book : (book : BookSeen) (k : ℕ) (x : Place) (met : List Met) → All (IsMetOf book) met → k < aircraft book → IsPlaceOf book x → All (IsLegOf book) (legs_from k x met)
legs-of_book book k x [] all within place = All-nil (IsLegOf book)
legs-of_book book k x (Unknown name ∷ met) all within place = legs-of_book book k x met (All-tail (IsMetOf book) (Unknown name) met all) within place
legs-of_book book k x (Twice name ∷ met) all within place = legs-of_book book k x met (All-tail (IsMetOf book) (Twice name) met all) within place
legs-of_book book k x (Tail j ∷ met) all within place =
    legs-of_book book j Carry met (All-tail (IsMetOf book) (Tail j) met all) (All-head (IsMetOf book) (Tail j) met all) tt
legs-of_book book k x (Activity b ∷ met) all within place =
    let of_book : b < activities book = All-head (IsMetOf book) (Activity b) met all in
    All-cons (IsLegOf book) (record { tail = k; from = x; activity = b }) (legs_from k (After b) met)
    (record { tail = within; from = place; activity = of_book })
    (legs-of_book book k (After b) met (All-tail (IsMetOf book) (Activity b) met all) within of_book)

-- before the first aircraft there is no leg
led-of_book : (book : BookSeen) (k : ℕ) (x : Place) (met : List Met) → All (IsMetOf book) met → next_route met ≡ [] → All (IsLegOf book) (legs_from k x met)
led-of_book book k x [] all led = All-nil (IsLegOf book)
led-of_book book k x (Unknown name ∷ met) all led = led-of_book book k x met (All-tail (IsMetOf book) (Unknown name) met all) led
led-of_book book k x (Twice name ∷ met) all led = led-of_book book k x met (All-tail (IsMetOf book) (Twice name) met all) led
led-of_book book k x (Tail j ∷ met) all led =
    legs-of_book book j Carry met (All-tail (IsMetOf book) (Tail j) met all) (All-head (IsMetOf book) (Tail j) met all) tt
led-of_book book k x (Activity b ∷ met) all led = absurd (never led)
  where
    never : b ∷ next_route met ≡ [] → ⊥
    never e = cc

pub legs_are_of_book : (book : BookSeen) (raw : RawPlanSeen) → All (IsLegOf book) (legs_met (names_met book raw))
legs_are_of_book book raw = led-of_book book 0 Carry (names_met book raw) (names_well_met book raw).of_book (names_well_met book raw).led

-- what a route from a place on comes to, where each activity counts h
abbrev pub along : (ℕ → Place → ℕ → ℕ) → ℕ → Place → List ℕ → ℕ
along h k x [] = 0
along h k x (b ∷ rest) = h k x b + along h k (After b) rest

-- and what legs come to
abbrev pub of_leg : (ℕ → Place → ℕ → ℕ) → Leg → ℕ
of_leg h leg = h leg.tail leg.from leg.activity

-- a sum in which one part more is not 0
put : (f g : ℕ → ℕ) (j v : ℕ) → f j ≡ 0 → g j ≡ v → ((i : ℕ) → i ≢ j → g i ≡ f i) → (s n : ℕ)
    → ((j < s → sum_by g (range_with_len s n) ≡ sum_by f (range_with_len s n)) × (s ≤ j → j < s + n → sum_by g (range_with_len s n) ≡ sum_by f (range_with_len s n) + v))
put f g j v none here others s zero = ((λ before. refl), (λ least most. absurd (omega (arith, least, most))))
put f g j v none here others s (suc n) =
    let rest = put f g j v none here others (s + 1) n in
    let gs = sum_by-cons g s (range_with_len (s + 1) n) in
    let fs = sum_by-cons f s (range_with_len (s + 1) n) in (
      (λ before.
          let same = rest.0 (omega (arith, before)) in
          let head = others s (λ e. absurd (omega (arith, e, before))) in
          omega (arith, gs, fs, same, head)),
      (λ least most. elim (cases_Bool (nat_eq s j)) [
        | inl t ↦ (
            let e : s ≡ j = grind (arith, nat_tests) in
            let same = rest.0 (omega (arith, e)) in
            let head : g s ≡ v = ap g e ∙ here in
            let zero_there : f s ≡ 0 = ap f e ∙ none in
            omega (arith, gs, fs, same, head, zero_there))
        | inr t ↦ (
            let e : s ≢ j = grind (arith, nat_tests) in
            let more = rest.1 (omega (arith, e, least)) (omega (arith, most)) in
            let head = others s e in
            omega (arith, gs, fs, more, head))
      ]),
    )

pub no_route : (met : List Met) (k : ℕ) → contains (tails_met met) k ≡ false → route_met met k ≡ []
no_route [] k h = refl
no_route (Unknown name ∷ met) k h = no_route met k h
no_route (Twice name ∷ met) k h = no_route met k h
no_route (Tail j ∷ met) k h = by (nat_eq k j) (contains (tails_met met) k) h (no_route met k)
  where
    by : (t b : Bool) → (t || b) ≡ false → (b ≡ false → route_met met k ≡ []) → (if t then next_route met else route_met met k) ≡ []
    by true b e rest = absurd (true≢false e)
    by false b e rest = rest e
no_route (Activity a ∷ met) k h = no_route met k h

pub differs : (k : ℕ) (ks : List ℕ) → IsDistinct nat_eq (k ∷ ks) → contains ks k ≡ false
differs k ks h = none ks (IsDistinct-head nat_eq k ks h)
  where
    none : (ks : List ℕ) → AllByRecursion (λ y. nat_eq k y ≡ false) ks → contains ks k ≡ false
    none [] h = refl
    none (j ∷ ks) h = rw h.0 (none ks h.1)

module _ (h : ℕ → Place → ℕ → ℕ) (m : ℕ) where
  -- the routes of the aircraft, and what stands before the first, come to what the legs come to
  pub along-met : (met : List Met) (k : ℕ) (x : Place) → IsDistinct nat_eq (tails_met met) → AllByRecursion (λ j. j < m) (tails_met met)
      → sum_by (λ i. along h i Carry (route_met met i)) (range_with_len 0 m) + along h k x (next_route met) ≡ sum_by (of_leg h) (legs_from k x met)
  along-met [] k x differ within = nothing 0 m
    where
      nothing : (s n : ℕ) → sum_by (λ (i : ℕ). 0) (range_with_len s n) + 0 ≡ 0
      nothing s zero = refl
      nothing s (suc n) = let e = sum_by-cons (λ (i : ℕ). 0) s (range_with_len (s + 1) n) in omega (arith, e, nothing (s + 1) n)
  along-met (Unknown name ∷ met) k x differ within = along-met met k x differ within
  along-met (Twice name ∷ met) k x differ within = along-met met k x differ within
  along-met (Tail j ∷ met) k x differ within =
      let f = λ (i : ℕ). along h i Carry (route_met met i) in
      let g = λ (i : ℕ). along h i Carry (if nat_eq i j then next_route met else route_met met i) in
      let v = along h j Carry (next_route met) in
      let none : f j ≡ 0 = ap (along h j Carry) (no_route met j (differs j (tails_met met) differ)) in
      let here : g j ≡ v = ap (λ t. along h j Carry (if t then next_route met else route_met met j)) (eq-eqb j j refl) in
      let others : (i : ℕ) → i ≢ j → g i ≡ f i = λ i e. let apart : nat_eq i j ≡ false = grind (arith, nat_tests) in ap (λ t. along h i Carry (if t then next_route met else route_met met i)) apart in
      let all : sum_by g (range_with_len 0 m) ≡ sum_by f (range_with_len 0 m) + v = (put f g j v none here others 0 m).1 (omega arith) (omega (arith, within.0)) in
      let rest = along-met met j Carry (IsDistinct-tail nat_eq j (tails_met met) differ) within.1 in
      omega (arith, all, rest)
  along-met (Activity b ∷ met) k x differ within =
      let rest = along-met met k (After b) differ within in
      let first = sum_by-cons (of_leg h) (record { tail = k; from = x; activity = b }) (legs_from k (After b) met) in
      omega (arith, rest, first)

-- the aircraft met are of the book
pub tails_within : (book : BookSeen) (met : List Met) → All (IsMetOf book) met → AllByRecursion (λ j. j < aircraft book) (tails_met met)
tails_within book [] all = tt
tails_within book (Unknown name ∷ met) all = tails_within book met (All-tail (IsMetOf book) (Unknown name) met all)
tails_within book (Twice name ∷ met) all = tails_within book met (All-tail (IsMetOf book) (Twice name) met all)
tails_within book (Tail j ∷ met) all = (All-head (IsMetOf book) (Tail j) met all, tails_within book met (All-tail (IsMetOf book) (Tail j) met all))
tails_within book (Activity b ∷ met) all = tails_within book met (All-tail (IsMetOf book) (Activity b) met all)

-- so the kept routes come to what the legs come to
pub along-kept : (h : ℕ → Place → ℕ → ℕ) (book : BookSeen) (met : List Met) → IsWellMet book met
    → sum_by (λ i. along h i Carry (route_met met i)) (range_with_len 0 (aircraft book)) ≡ sum_by (of_leg h) (legs_met met)
along-kept h book met well =
    let all = along-met h (aircraft book) met 0 Carry well.tails (tails_within book met well.of_book) in
    let none : along h 0 Carry (next_route met) ≡ 0 = ap (along h 0 Carry) well.led in
    omega (arith, all, none)

-- what a plan costs, route by route
cost-along : (book : BookSeen) (k : ℕ) (x : Place) (route : List ℕ) → cost_from book k x route ≡ along (λ k x b. activity_cost book k b + connection_cost book k x b) k x route
cost-along book k x [] = refl
cost-along book k x (b ∷ rest) = ap (λ c. activity_cost book k b + connection_cost book k x b + c) (cost-along book k (After b) rest)

costs-by : (book : BookSeen) (f : ℕ → List ℕ) (s n : ℕ) → cost_of_routes book s (map f (range_with_len s n)) ≡ sum_by (λ i. along (λ k x b. activity_cost book k b + connection_cost book k x b) i Carry (f i)) (range_with_len s n)
costs-by book f s zero = refl
costs-by book f s (suc n) =
    let first = cost-along book s Carry (f s) in
    let rest = costs-by book f (s + 1) n in
    let sum = sum_by-cons (λ i. along (λ k x b. activity_cost book k b + connection_cost book k x b) i Carry (f i)) s (range_with_len (s + 1) n) in
    omega (arith, first, rest, sum)

-- a kept plan costs what its legs cost
pub kept_cost : (book : BookSeen) (raw : RawPlanSeen) → plan_cost book (kept book raw) ≡ legs_cost book (legs_met (names_met book raw))
kept_cost book raw =
    costs-by book (route_met (names_met book raw)) 0 (aircraft book)
    ∙ along-kept (λ k x b. activity_cost book k b + connection_cost book k x b) book (names_met book raw) (names_well_met book raw)

-- how often an activity is flown, route by route
count-along : (a k : ℕ) (x : Place) (route : List ℕ) → count_by (nat_eq a) route ≡ along (λ k x b. cond (nat_eq a b) 1 0) k x route
count-along a k x [] = refl
count-along a k x (b ∷ rest) = sum_by-cons (λ y. cond (nat_eq a y) 1 0) b rest ∙ ap (λ n. cond (nat_eq a b) 1 0 + n) (count-along a k (After b) rest)

times-by : (a : ℕ) (f : ℕ → List ℕ) (s n : ℕ) → times_flown (map f (range_with_len s n)) a ≡ sum_by (λ i. along (λ k x b. cond (nat_eq a b) 1 0) i Carry (f i)) (range_with_len s n)
times-by a f s zero = refl
times-by a f s (suc n) =
    let split = sum_by-append (λ y. cond (nat_eq a y) 1 0) (f s) (flat_map (λ r. r) (map f (range_with_len (s + 1) n))) in
    let first = count-along a s Carry (f s) in
    let rest = times-by a f (s + 1) n in
    let sum = sum_by-cons (λ i. along (λ k x b. cond (nat_eq a b) 1 0) i Carry (f i)) s (range_with_len (s + 1) n) in
    omega (arith, split, first, rest, sum)

met-along : (a k : ℕ) (x : Place) (met : List Met) → sum_by (of_leg (λ k x b. cond (nat_eq a b) 1 0)) (legs_from k x met) ≡ count_by (nat_eq a) (activities_met met)
met-along a k x [] = refl
met-along a k x (Unknown name ∷ met) = met-along a k x met
met-along a k x (Twice name ∷ met) = met-along a k x met
met-along a k x (Tail j ∷ met) = met-along a j Carry met
met-along a k x (Activity b ∷ met) =
    let first = sum_by-cons (of_leg (λ k x b. cond (nat_eq a b) 1 0)) (record { tail = k; from = x; activity = b }) (legs_from k (After b) met) in
    let count = sum_by-cons (λ y. cond (nat_eq a y) 1 0) b (activities_met met) in
    omega (arith, first, count, met-along a k (After b) met)

-- in a kept plan an activity is flown as often as it is met
pub kept_times : (book : BookSeen) (raw : RawPlanSeen) (a : ℕ) → times_flown (kept book raw) a ≡ count_by (nat_eq a) (activities_met (names_met book raw))
kept_times book raw a =
    times-by a (route_met (names_met book raw)) 0 (aircraft book)
    ∙ along-kept (λ k x b. cond (nat_eq a b) 1 0) book (names_met book raw) (names_well_met book raw)
    ∙ met-along a 0 Carry (names_met book raw)

pub count_none : (a : ℕ) (xs : List ℕ) → contains xs a ≡ false → count_by (nat_eq a) xs ≡ 0
count_none a [] h = refl
count_none a (x ∷ xs) h = by (nat_eq a x) (contains xs a) h (count_none a xs) (sum_by-cons (λ y. cond (nat_eq a y) 1 0) x xs)
  where
    by : (t b : Bool) → (t || b) ≡ false → (b ≡ false → count_by (nat_eq a) xs ≡ 0) → count_by (nat_eq a) (x ∷ xs) ≡ cond t 1 0 + count_by (nat_eq a) xs → count_by (nat_eq a) (x ∷ xs) ≡ 0
    by true b e rest sum = absurd (true≢false e)
    by false b e rest sum = omega (arith, rest e, sum)

-- what is among numbers that differ is there once
pub count_one : (a : ℕ) (xs : List ℕ) → IsDistinct nat_eq xs → contains xs a ≡ true → count_by (nat_eq a) xs ≡ 1
count_one a [] differ h = absurd (true≢false (sym h))
count_one a (x ∷ xs) differ h = by (nat_eq a x) refl h (count_one a xs (IsDistinct-tail nat_eq x xs differ))
  where
    sum : count_by (nat_eq a) (x ∷ xs) ≡ cond (nat_eq a x) 1 0 + count_by (nat_eq a) xs
    sum = sum_by-cons (λ y. cond (nat_eq a y) 1 0) x xs

    one_here : (t : Bool) (n all : ℕ) → all ≡ cond t 1 0 + n → t ≡ true → n ≡ 0 → all ≡ 1
    one_here true n all sum e none = omega arith
    one_here false n all sum e none = absurd (true≢false (sym e))

    none_here : (t : Bool) (n all : ℕ) → all ≡ cond t 1 0 + n → t ≡ false → n ≡ 1 → all ≡ 1
    none_here true n all sum e one = absurd (true≢false e)
    none_here false n all sum e one = omega arith

    by : (t : Bool) → nat_eq a x ≡ t → (t || contains xs a) ≡ true → (contains xs a ≡ true → count_by (nat_eq a) xs ≡ 1) → count_by (nat_eq a) (x ∷ xs) ≡ 1
    by true e here others =
        let same : x ≡ a = sym (eqb-true a x e) in
        one_here (nat_eq a x) (count_by (nat_eq a) xs) (count_by (nat_eq a) (x ∷ xs)) sum e
        (count_none a xs (subst (λ y. contains xs y ≡ false) same (differs x xs differ)))
    by false e here others = none_here (nat_eq a x) (count_by (nat_eq a) xs) (count_by (nat_eq a) (x ∷ xs)) sum e (others here)
