-- The routes that legs make one after the other, and those of the kept plan.
--
-- A leg goes to the end of the route of its aircraft and leaves the others as they are. An aircraft is met once, so its
-- legs are the activities behind its line and no others, in their order: that is its kept route.
use Rattle.std.proofs.Common.{◌≡◌, ◌≢◌, ◌∙◌, sym, refl, ap, arith, true≢false, ℕ, zero, suc, ◌+◌, ◌<◌, ◌≤◌, inl, inr, Bool, true, false, cond, if◌then◌else◌, nat_eq, List, [], ◌∷◌, ◌++◌, map, length, set, get_or, take, replicate}
use Rattle.std.specs.List.{filter, range_with_len, IsDistinct}
use Rattle.std.proofs.lemmas.Bool.{cases_eq, eq-eqb, eqb-true}
use Rattle.std.proofs.lemmas.Bool.Decides.{nat_tests}
use Rattle.std.proofs.lemmas.List.{get_or-set_same, get_or-set_other, length-set, ext_get_or, take_more, take_all, append-nil, map-append}
use Rattle.std.proofs.lemmas.List.Elements.{filter-append}
use Rattle.std.proofs.lemmas.List.FromFn.{length-map-range_with_len, get_or-map-range_with_len}
use Rattle.std.proofs.lemmas.Map.Keys.{IsDistinct-tail}
use Rattle.tail_book.specs.Seen.{BookSeen, RawPlanSeen}
use Rattle.tail_book.specs.Lookup.{aircraft}
use Rattle.tail_book.specs.declared.place.Place.{Place}
use Rattle.tail_book.specs.declared.place.Place.TheVariants.{Carry, After}
use Rattle.plan_audit.specs.declared.leg.Leg.{Leg}
use Rattle.plan_audit.specs.declared.met.Met.{Met}
use Rattle.plan_audit.specs.declared.met.Met.TheVariants.{Unknown, Twice, Tail, Activity}
use Rattle.plan_audit.specs.Met.{tails_met, names_met}
use Rattle.plan_audit.specs.Kept.{next_route, route_met, kept, legs_from, legs_met}
use Rattle.plan_audit.specs.inside.Kept.{route_in}
use Rattle.plan_audit.proofs.WellMet.{names_well_met}
use Rattle.plan_audit.proofs.KeptLegs.{route_behind}

mapped : (f : ℕ → List ℕ) (m i : ℕ) → i < m → get_or (map f (range_with_len 0 m)) i [] ≡ f i
mapped f m i within = get_or-map-range_with_len f 0 m i i [] within (omega arith)

-- what two functions agree on is mapped to the same
pub mapped_same : (f g : ℕ → List ℕ) (m : ℕ) → ((i : ℕ) → i < m → f i ≡ g i) → map f (range_with_len 0 m) ≡ map g (range_with_len 0 m)
mapped_same f g m each =
    let long = length-map-range_with_len f 0 m in
    let wide = length-map-range_with_len g 0 m in
    ext_get_or [] (map f (range_with_len 0 m)) (map g (range_with_len 0 m)) (omega (arith, long, wide))
    (λ i below. let within : i < m = omega (arith, long, below) in mapped f m i within ∙ each i within ∙ sym (mapped g m i within))

-- one route is replaced
mapped_set : (f g : ℕ → List ℕ) (m k : ℕ) (route : List ℕ) → k < m → g k ≡ route → ((i : ℕ) → i ≢ k → g i ≡ f i)
    → set (map f (range_with_len 0 m)) k route ≡ map g (range_with_len 0 m)
mapped_set f g m k route within here others =
    let old = map f (range_with_len 0 m) in
    let long = length-map-range_with_len f 0 m in
    let wide = length-map-range_with_len g 0 m in
    let same = length-set old k route in
    ext_get_or [] (set old k route) (map g (range_with_len 0 m)) (omega (arith, same, long, wide))
    (λ i below.
    let inside : i < m = omega (arith, same, long, below) in
    elim (cases_eq i k) [
      | inl e ↦ (ap (λ j. get_or (set old k route) j []) e ∙ get_or-set_same old k route [] (omega (arith, long, within)) ∙ sym here ∙ ap g (sym e) ∙ sym (mapped g m i inside))
      | inr other ↦ (get_or-set_other old k i route [] other ∙ mapped f m i inside ∙ sym (others i other) ∙ sym (mapped g m i inside))
    ])

-- one leg more, at the end
route_more : (legs : List Leg) (leg : Leg) (k : ℕ) → route_in (legs ++ leg ∷ []) k ≡ route_in legs k ++ route_in (leg ∷ []) k
route_more legs leg k =
    ap (map (λ (l : Leg). l.activity)) (filter-append (λ (l : Leg). nat_eq l.tail k) legs (leg ∷ []))
    ∙ map-append (λ (l : Leg). l.activity) (filter (λ (l : Leg). nat_eq l.tail k) legs) (filter (λ (l : Leg). nat_eq l.tail k) (leg ∷ []))

its_own : (leg : Leg) → route_in (leg ∷ []) leg.tail ≡ leg.activity ∷ []
its_own leg = ap (λ t. map (λ (l : Leg). l.activity) (cond t (leg ∷ []) [])) (eq-eqb leg.tail leg.tail refl)

of_another : (leg : Leg) (k : ℕ) → k ≢ leg.tail → route_in (leg ∷ []) k ≡ []
of_another leg k other =
    let apart : nat_eq leg.tail k ≡ false = grind (arith, nat_tests) in
    ap (λ t. map (λ (l : Leg). l.activity) (cond t (leg ∷ []) [])) apart

pub leg-next : (legs : List Leg) (m i : ℕ) (d : Leg) (routes now : List (List ℕ)) → i < length legs → (get_or legs i d).tail < m
    → routes ≡ map (route_in (take i legs)) (range_with_len 0 m)
    → now ≡ set routes (get_or legs i d).tail (get_or routes (get_or legs i d).tail [] ++ (get_or legs i d).activity ∷ [])
    → now ≡ map (route_in (take (i + 1) legs)) (range_with_len 0 m)
leg-next legs m i d routes now within tail so_far e =
    let leg = get_or legs i d in
    let before = take i legs in
    let read : get_or routes leg.tail [] ≡ route_in before leg.tail = ap (λ rs. get_or rs leg.tail []) so_far ∙ mapped (route_in before) m leg.tail tail in
    let longer : route_in (before ++ leg ∷ []) leg.tail ≡ route_in before leg.tail ++ leg.activity ∷ [] =
    route_more before leg leg.tail ∙ ap (λ r. route_in before leg.tail ++ r) (its_own leg) in
    let others : (j : ℕ) → j ≢ leg.tail → route_in (before ++ leg ∷ []) j ≡ route_in before j =
    λ j other. route_more before leg j ∙ ap (λ r. route_in before j ++ r) (of_another leg j other) ∙ append-nil (route_in before j) in
    e ∙ ap (λ r. set routes leg.tail (r ++ leg.activity ∷ [])) read
    ∙ ap (λ rs. set rs leg.tail (route_in before leg.tail ++ leg.activity ∷ [])) so_far
    ∙ mapped_set (route_in before) (route_in (before ++ leg ∷ [])) m leg.tail (route_in before leg.tail ++ leg.activity ∷ []) tail longer others
    ∙ ap (λ ls. map (route_in ls) (range_with_len 0 m)) (sym (take_more legs i d within))

pub legs-end : (legs : List Leg) (m i : ℕ) (routes : List (List ℕ)) → length legs ≤ i → routes ≡ map (route_in (take i legs)) (range_with_len 0 m)
    → routes ≡ map (route_in legs) (range_with_len 0 m)
legs-end legs m i routes all so_far = so_far ∙ ap (λ ls. map (route_in ls) (range_with_len 0 m)) (take_all i legs all)

-- no leg yet
none_yet : (s m : ℕ) → replicate m [] ≡ map (route_in []) (range_with_len s m)
none_yet s zero = refl
none_yet s (suc m) = ap (λ (rs : List (List ℕ)). [] ∷ rs) (none_yet (s + 1) m)

pub legs-begin : (m : ℕ) (routes : List (List ℕ)) → routes ≡ replicate m [] → routes ≡ map (route_in []) (range_with_len 0 m)
legs-begin m routes e = e ∙ none_yet 0 m

pub leg-fits : (f : ℕ → List ℕ) (m k : ℕ) (routes : List (List ℕ)) → k < m → routes ≡ map f (range_with_len 0 m) → k < length routes
leg-fits f m k routes within so_far =
    let long : length routes ≡ m = ap length so_far ∙ length-map-range_with_len f 0 m in omega (arith, long, within)

nothing_first : (t : Bool) (route : List ℕ) → route ≡ (if t then [] else []) ++ route
nothing_first true route = refl
nothing_first false route = refl

-- the route of an aircraft among the legs is the one behind its line, and before that what goes on where the legs begin
route_of_legs : (met : List Met) (k : ℕ) (x : Place) → IsDistinct nat_eq (tails_met met) → (i : ℕ)
    → route_in (legs_from k x met) i ≡ (if nat_eq k i then next_route met else []) ++ route_met met i
route_of_legs [] k x differ i = nothing_first (nat_eq k i) []
route_of_legs (Unknown name ∷ met) k x differ i = route_of_legs met k x differ i
route_of_legs (Twice name ∷ met) k x differ i = route_of_legs met k x differ i
route_of_legs (Tail j ∷ met) k x differ i =
    by (nat_eq i j) (nat_eq j i) refl refl (route_of_legs met j Carry (IsDistinct-tail nat_eq j (tails_met met) differ) i)
    ∙ nothing_first (nat_eq k i) (if nat_eq i j then next_route met else route_met met i)
  where
    by : (t u : Bool) → nat_eq i j ≡ t → nat_eq j i ≡ u → route_in (legs_from j Carry met) i ≡ (if u then next_route met else []) ++ route_met met i
        → route_in (legs_from j Carry met) i ≡ (if t then next_route met else route_met met i)
    by true true e f rest =
        let none : route_met met i ≡ [] = ap (route_met met) (eqb-true i j e) ∙ route_behind j met differ in
        rest ∙ ap (λ r. next_route met ++ r) none ∙ append-nil (next_route met)
    by true false e f rest = absurd (true≢false (sym (eq-eqb j i (sym (eqb-true i j e))) ∙ f))
    by false true e f rest = absurd (true≢false (sym (eq-eqb i j (sym (eqb-true j i f))) ∙ e))
    by false false e f rest = rest
route_of_legs (Activity b ∷ met) k x differ i = by (nat_eq k i) (route_of_legs met k (After b) differ i)
  where
    by : (t : Bool) → route_in (legs_from k (After b) met) i ≡ (if t then next_route met else []) ++ route_met met i
        → map (λ (l : Leg). l.activity) (cond t (record { tail = k; from = x; activity = b } ∷ filter (λ (l : Leg). nat_eq l.tail i) (legs_from k (After b) met)) (filter (λ (l : Leg). nat_eq l.tail i) (legs_from k (After b) met)))
        ≡ (if t then b ∷ next_route met else []) ++ route_met met i
    by true rest = ap (λ r. b ∷ r) rest
    by false rest = rest

-- the routes of the legs are those of the kept plan
pub routes_are_kept : (book : BookSeen) (raw : RawPlanSeen) (legs : List Leg) → legs ≡ legs_met (names_met book raw)
    → map (route_in legs) (range_with_len 0 (aircraft book)) ≡ kept book raw
routes_are_kept book raw legs e =
    let met = names_met book raw in
    let well = names_well_met book raw in
    ap (λ ls. map (route_in ls) (range_with_len 0 (aircraft book))) e
    ∙ mapped_same (route_in (legs_met met)) (route_met met) (aircraft book)
    (λ i within. route_of_legs met 0 Carry well.tails i ∙ led (nat_eq 0 i) (next_route met) (route_met met i) well.led)
  where
    led : (t : Bool) (first route : List ℕ) → first ≡ [] → (if t then first else []) ++ route ≡ route
    led true first route none = ap (λ r. r ++ route) none
    led false first route none = refl
