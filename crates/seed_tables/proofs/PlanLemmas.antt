-- What each aircraft was made to fly is a legal route, all of them a plan, and they cost what the making says.
--
-- A book puts activities in order, so a flight is found by its id, whatever the order is; then each activity is flown
-- once (`PlaceLemmas`). Route `k` is made from the state behind the draws of `k` aircraft, and `RouteLemmas` has its
-- legality and cost. What every legal plan pays at least is the same sum over the book, so none costs less
-- (`LeastLemmas`).
use Rattle.std.proofs.Common.{◌≡◌, ◌≢◌, ◌∙◌, ◌+◌, ◌<◌, ◌≤◌, ℕ, zero, suc, ℤ, pos, List, [], ◌∷◌, ◌++◌, map, length, get_or, All, AllPairs, Contains, IsPermutation, slice_index_or, sum_by, arith, refl, sym, ap, subst}
use Rattle.std.specs.List.{flat_map}
use Rattle.std.proofs.lemmas.List.{get_or-map, length-map, map-append}
use Rattle.std.proofs.lemmas.List.Elements.{All-cons, All-head, All-nil, All-tail}
use Rattle.std.proofs.lemmas.List.Sorted.{Contains-permutation}
use Rattle.std.proofs.lemmas.List.Sums.{sum_by-append}
use Rattle.tail_book.specs.Seen.{ActivitySeen, BookSeen, TailSeen}
use Rattle.tail_book.specs.declared.place.Place.TheVariants.{Carry}
use Rattle.tail_book.specs.Cost.{cost_of_routes, plan_cost, route_cost}
use Rattle.tail_book.specs.Lookup.{carry_of, no_tail}
use Rattle.tail_book.specs.Plan.{IsLegalPlan, route_of, times_flown}
use Rattle.tail_book.specs.Route.{IsLegalFrom, IsLegalRoute}
use Rattle.tail_book.specs.Truth.{CostsAtLeastBy, IsPlanOf}
use Rattle.book_maker.specs.Order.{in_order}
use Rattle.book_maker.proofs.OrderLemmas.{differ_anywhere, in_order-permutes}
use Rattle.seed_tables.specs.declared.flight.Flight.{Flight}
use Rattle.seed_tables.specs.Draws.{next}
use Rattle.seed_tables.specs.Flights.{airports_from, all_flights, all_flights_from, behind, first_airport, first_airports, flights_of}
use Rattle.seed_tables.specs.Making.{flight_cost, making_cost, making_plan, number_in, routes_from}
use Rattle.seed_tables.specs.inside.Ids.{all_ids_from, id_of}
use Rattle.seed_tables.specs.inside.TrialBook.{activity_made, book_made, book_with, tail_made, tails_made}
use Rattle.seed_tables.specs.inside.Least.{least_cost}
use Rattle.seed_tables.proofs.LeastLemmas.{each-made, least-sum, plan-least, same-sum}
use Rattle.seed_tables.proofs.MadeLemmas.{airport-below, all-made, airports-many, all-ids}
use Rattle.seed_tables.proofs.NewNames.{ids-new, names-differ}
use Rattle.seed_tables.proofs.PlaceLemmas.{found, ids, place_of, places-once, places_in}
use Rattle.seed_tables.proofs.RouteLemmas.{IsAt, costs-from, legal-from}

-- the state behind the draws of so many aircraft
abbrev state_of : ℕ → ℕ → ℕ
state_of zero x = x
state_of (suc i) x = state_of i (behind x)

route-is : (book : BookSeen) (more k x i j : ℕ) → i < more → k + i ≡ j → route_of (routes_from book more k x) i ≡ map (number_in book) (flights_of j (state_of i x))
unfolding routes_from
route-is book zero k x i j h e = absurd (omega arith)
route-is book (suc more) k x zero j h e = let same : k ≡ j = omega arith in rw same refl
route-is book (suc more) k x (suc i) j h e = route-is book more (k + 1) (behind x) i j (omega arith) (omega arith)

tail-is : (more k x i j : ℕ) → i < more → k + i ≡ j → slice_index_or (tails_made k (airports_from more x)) i no_tail ≡ tail_made j (first_airport (state_of i x))
unfolding airports_from
tail-is zero k x i j h e = absurd (omega arith)
tail-is (suc more) k x zero j h e = let same : k ≡ j = omega arith in rw same refl
tail-is (suc more) k x (suc i) j h e = tail-is more (k + 1) (behind x) i j (omega arith) (omega arith)

tails-many : (k : ℕ) (airports : List ℕ) → length (tails_made k airports) ≡ length airports
tails-many k [] = refl
tails-many k (at ∷ more) = ap (λ (n : ℕ). suc n) (tails-many (k + 1) more)

routes-many : (book : BookSeen) (more k x : ℕ) → length (routes_from book more k x) ≡ more
unfolding routes_from
routes-many book zero k x = refl
routes-many book (suc more) k x = ap (λ (n : ℕ). suc n) (routes-many book more (k + 1) (behind x))

front : (P : Flight → Type 0) (xs ys : List Flight) → All P (xs ++ ys) → All P xs
front P [] ys each = All-nil P
front P (x ∷ xs) ys each = All-cons P x xs (All-head P x (xs ++ ys) each) (front P xs ys (All-tail P x (xs ++ ys) each))

back : (P : Flight → Type 0) (xs ys : List Flight) → All P (xs ++ ys) → All P ys
back P [] ys each = each
back P (x ∷ xs) ys each = back P xs ys (All-tail P x (xs ++ ys) each)

one-of-all : (P : Flight → Type 0) (more k x i j : ℕ) → i < more → k + i ≡ j → All P (all_flights_from more k x) → All P (flights_of j (state_of i x))
unfolding all_flights_from
one-of-all P zero k x i j h e each = absurd (omega arith)
one-of-all P (suc more) k x zero j h e each =
    let same : k ≡ j = omega arith in
    subst (λ (n : ℕ). All P (flights_of n x)) same (front P (flights_of k x) (all_flights_from more (k + 1) (behind x)) each)
one-of-all P (suc more) k x (suc i) j h e each =
    one-of-all P more (k + 1) (behind x) i j (omega arith) (omega arith) (back P (flights_of k x) (all_flights_from more (k + 1) (behind x)) each)

-- all that the routes fly
flown-is : (book : BookSeen) (more k x : ℕ) → flat_map (λ route. route) (routes_from book more k x) ≡ map (number_in book) (all_flights_from more k x)
unfolding routes_from all_flights_from
flown-is book zero k x = refl
flown-is book (suc more) k x =
    rw (flown-is book more (k + 1) (behind x)) (sym (map-append (number_in book) (flights_of k x) (all_flights_from more (k + 1) (behind x))))

-- what the routes cost
costs-are : (acts : List ActivitySeen) (tails : List TailSeen) (more k x : ℕ)
    → ((i j : ℕ) → i < more → k + i ≡ j → slice_index_or tails j no_tail ≡ tail_made j (first_airport (state_of i x)))
    → ((i j : ℕ) → i < more → k + i ≡ j → j < length tails)
    → All (λ f. IsAt acts (number_in (book_with acts tails) f) f) (all_flights_from more k x)
    → cost_of_routes (book_with acts tails) k (routes_from (book_with acts tails) more k x) ≡ sum_by flight_cost (all_flights_from more k x)
unfolding routes_from all_flights_from
costs-are acts tails zero k x are known placed = refl
costs-are acts tails (suc more) k x are known placed =
    let book = book_with acts tails in
    let P = λ (f : Flight). IsAt acts (number_in (book_with acts tails) f) f in
    let mine = front P (flights_of k x) (all_flights_from more (k + 1) (behind x)) placed in
    let others = back P (flights_of k x) (all_flights_from more (k + 1) (behind x)) placed in
    let first : route_cost book k (map (number_in book) (flights_of k x)) ≡ sum_by flight_cost (flights_of k x) =
    costs-from acts tails k (first_airport x) (are 0 k (omega arith) (omega arith)) (known 0 k (omega arith) (omega arith)) (number_in book)
    15 0 (first_airport x) 0 (next x) Carry mine in
    let rest = costs-are acts tails more (k + 1) (behind x) (λ i j h e. are (suc i) j (omega arith) (omega arith)) (λ i j h e. known (suc i) j (omega arith) (omega arith)) others in
    rw (first, rest) (sym (sum_by-append flight_cost (flights_of k x) (all_flights_from more (k + 1) (behind x))))

-- the ids of the flights differ
acts-differ : (acts : List ActivitySeen) → AllPairs (λ a b. a ≢ b) (ids acts) → AllPairs (λ a b. a.id ≢ b.id) acts
acts-differ acts apart i j d before within =
    let many = length-map acts (λ (a : ActivitySeen). a.id) in
    subst (λ (x : List ℕ). x ≢ (get_or acts j d).id) (get_or-map (λ (a : ActivitySeen). a.id) acts i d d.id (omega arith))
    (subst (λ (y : List ℕ). get_or (ids acts) i d.id ≢ y) (get_or-map (λ (a : ActivitySeen). a.id) acts j d d.id within)
    (apart i j d.id before (omega (arith, many))))

ids-are : (flights : List Flight) → ids (map activity_made flights) ≡ map id_of flights
ids-are [] = refl
ids-are (f ∷ flights) = ap (λ (xs : List (List ℕ)). id_of f ∷ xs) (ids-are flights)

made-differ : (seed : ℕ) → AllPairs (λ a b. a.id ≢ b.id) (map activity_made (all_flights seed))
made-differ seed =
    acts-differ (map activity_made (all_flights seed))
    (subst (λ (xs : List (List ℕ)). AllPairs (λ a b. a ≢ b) xs) (sym (ids-are (all_flights seed) ∙ all-ids 8 0 seed)) (names-differ [] (all_ids_from 8 0) ids-new))

-- each flight is an activity with the number of its id, in any order of the activities
placed-in : (flights : List Flight) (acts : List ActivitySeen) → IsPermutation (map activity_made flights) acts → AllPairs (λ a b. a.id ≢ b.id) acts
    → All (λ f. IsAt acts (place_of (ids acts) (id_of f)) f) flights
placed-in flights acts moved apart i d within =
    let f = get_or flights i d in
    let many = length-map flights activity_made in
    let has : Contains (map activity_made flights) (activity_made f) = (i, omega (arith, many, within), get_or-map activity_made flights i d (activity_made f) within) in
    let at = found acts (activity_made f) apart (Contains-permutation (map activity_made flights) acts (activity_made f) moved has) in
    record { within = at.within; is = at.is }

places-are : (acts : List ActivitySeen) (flights : List Flight) → places_in acts (map activity_made flights) ≡ map (λ f. place_of (ids acts) (id_of f)) flights
places-are acts [] = refl
places-are acts (f ∷ flights) = ap (λ (ns : List ℕ). place_of (ids acts) (id_of f) ∷ ns) (places-are acts flights)

module _ (seed : ℕ) (acts : List ActivitySeen) (moved : IsPermutation (map activity_made (all_flights seed)) acts) (apart : AllPairs (λ a b. a.id ≢ b.id) acts) where
  placed : All (λ f. IsAt acts (place_of (ids acts) (id_of f)) f) (all_flights seed)
  placed = placed-in (all_flights seed) acts moved apart

  many : length (tails_made 0 (first_airports seed)) ≡ 8
  many = tails-many 0 (first_airports seed) ∙ airports-many 8 seed

  tail : (k : ℕ) → k < 8 → slice_index_or (tails_made 0 (first_airports seed)) k no_tail ≡ tail_made k (first_airport (state_of k seed))
  tail k h = tail-is 8 0 seed k k h (omega arith)

  legal-route : (k : ℕ) → k < 8 → IsLegalRoute (book_with acts (tails_made 0 (first_airports seed))) k
      (route_of (routes_from (book_with acts (tails_made 0 (first_airports seed))) 8 0 seed) k)
  legal-route k h =
      let tails = tails_made 0 (first_airports seed) in
      let book = book_with acts tails in
      let home = first_airport (state_of k seed) in
      let is_tail = tail k h in
      let carries : carry_of book k ≡ pos 0 ∷ pos 0 ∷ [] = ap (λ (t : TailSeen). t.carry) is_tail in
      let legal = legal-from acts tails k home is_tail (omega (arith, many, h)) (number_in book) 15 0 home 0 (next (state_of k seed)) 0 0 Carry refl
      (airport-below (state_of k seed)) (ap (λ (t : TailSeen). t.at) is_tail) (ap (λ (t : TailSeen). t.ready) is_tail) tt (λ m. omega arith) (λ _. refl) (omega arith) refl
      (one-of-all (λ f. IsAt acts (place_of (ids acts) (id_of f)) f) 8 0 seed k k h (omega arith) placed) in
      rw (route-is book 8 0 seed k k h (omega arith))
      (subst (λ (v : List ℤ). IsLegalFrom book k Carry v (map (number_in book) (flights_of k (state_of k seed)))) (sym carries) legal)

  once : (a : ℕ) → a < length acts → times_flown (routes_from (book_with acts (tails_made 0 (first_airports seed))) 8 0 seed) a ≡ 1
  once a h =
      rw (flown-is (book_with acts (tails_made 0 (first_airports seed))) 8 0 seed, ← places-are acts (all_flights seed))
      (places-once (map activity_made (all_flights seed)) acts moved apart a h)

  pub legal-plan : IsPlanOf (book_with acts (tails_made 0 (first_airports seed))) (making_cost seed) (making_plan (book_with acts (tails_made 0 (first_airports seed))) seed)
  legal-plan = record {
    legal = record {
      one_each = routes-many (book_with acts (tails_made 0 (first_airports seed))) 8 0 seed ∙ sym many;
      routes = λ k h. legal-route k (omega (arith, many, h));
      partition = once;
    };
    costs =
        costs-are acts (tails_made 0 (first_airports seed)) 8 0 seed
        (λ i j h e. let same : i ≡ j = omega arith in
        subst (λ (n : ℕ). slice_index_or (tails_made 0 (first_airports seed)) n no_tail ≡ tail_made n (first_airport (state_of i seed))) same (tail i h))
        (λ i j h e. omega (arith, many, h, e)) placed;
  }

  -- no legal plan costs less
  pub costs-least : (plan : List (List ℕ)) → IsLegalPlan (book_with acts (tails_made 0 (first_airports seed))) plan
      → making_cost seed ≤ plan_cost (book_with acts (tails_made 0 (first_airports seed))) plan
  costs-least plan legal =
      let tails = tails_made 0 (first_airports seed) in
      let book = book_with acts tails in
      let own = least-sum acts tails (number_in book) (all_flights seed) (all-made 8 0 seed) placed in
      let flown = ap (λ (xs : List ℕ). sum_by (least_cost book) xs) (flown-is book 8 0 seed) in
      let same = same-sum book (least_cost book) (making_plan book seed) plan legal-plan.legal legal in
      let low = plan-least acts tails (each-made (all_flights seed) acts (all-made 8 0 seed) moved) 0 plan
      (λ i j h e. (first_airport (state_of j seed), tail j (omega (arith, many, legal.one_each, h, e))))
      (λ i j h e. let is : i ≡ j = omega arith in subst (λ (n : ℕ). IsLegalRoute book n (route_of plan i)) is (legal.routes i (omega (arith, legal.one_each, h)))) in
      omega (arith, own, flown, same, low)

-- the plan of a seed
pub plan-is-legal : (seed : ℕ) → IsPlanOf (book_made seed) (making_cost seed) (making_plan (book_made seed) seed)
plan-is-legal seed =
    let acts = map activity_made (all_flights seed) in
    legal-plan seed (in_order acts) (in_order-permutes acts) (differ_anywhere acts (in_order acts) (made-differ seed) (in_order-permutes acts))

pub plan-is-least : (seed : ℕ) → CostsAtLeastBy (plan_cost (book_made seed)) (book_made seed) (making_cost seed)
plan-is-least seed =
    let acts = map activity_made (all_flights seed) in
    costs-least seed (in_order acts) (in_order-permutes acts) (differ_anywhere acts (in_order acts) (made-differ seed) (in_order-permutes acts))
