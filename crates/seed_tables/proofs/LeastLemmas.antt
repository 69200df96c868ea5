-- No legal plan of a trial costs less than that of the making.
--
-- Whoever flies a flight pays at least what it cost the aircraft for which it was made: a minute costs 1 at least, and
-- 2 where type `Q` is needed. Each legal plan flies every flight once, so its cost is at least the sum of these.
use Rattle.std.proofs.Common.{◌≡◌, ◌∙◌, ◌+◌, ◌*◌, ◌-◌, ◌%◌, ◌<◌, ◌≤◌, ◌==◌, ℕ, suc, ℤ, pos, ◌-ℤ◌, Bool, true, false, if◌then◌else◌, List, [], ◌∷◌, map, length, get_or, All, Contains, IsPermutation, slice_index_or, sum_by, arith, refl, sym, subst}
use Rattle.std.proofs.lemmas.Int.{ints}
use Rattle.std.proofs.lemmas.List.{get_or-map, length-map}
use Rattle.std.proofs.lemmas.List.Elements.{All-head, All-tail}
use Rattle.std.proofs.lemmas.List.Sorted.{Contains-permutation, IsPermutation-sym}
use Rattle.std.proofs.lemmas.List.Sums.{sum_by-append, sum_by-cons}
use Rattle.tail_book.specs.Seen.{ActivitySeen, BookSeen, TailSeen}
use Rattle.tail_book.specs.declared.place.Place.{Place}
use Rattle.tail_book.specs.declared.place.Place.TheVariants.{After, Carry}
use Rattle.tail_book.specs.Allowed.{IsAllowed}
use Rattle.tail_book.specs.Cost.{activity_cost, cost_from, cost_of_routes, route_cost}
use Rattle.tail_book.specs.Counters.{step}
use Rattle.tail_book.specs.Curfew.{covers_type}
use Rattle.tail_book.specs.Lookup.{activities, no_activity, no_tail, type_rate}
use Rattle.tail_book.specs.Numbers.{is_empty}
use Rattle.tail_book.specs.Plan.{IsLegalPlan, route_of}
use Rattle.tail_book.specs.Route.{IsLegalFrom, IsLegalRoute}
use Rattle.tail_book.specs.inside.Partition.{all_flown}
use Rattle.tail_book.specs.Sums.{total}
use Rattle.tail_book.proofs.Partition.{plan_parts}
use Rattle.tail_book.proofs.Sums.{total_of_partition}
use Rattle.seed_tables.specs.declared.flight.Flight.{Flight}
use Rattle.seed_tables.specs.Making.{flight_cost}
use Rattle.seed_tables.specs.inside.Least.{least_cost}
use Rattle.seed_tables.specs.inside.TrialBook.{activity_made, book_with, first_minute, kind_made, tail_made, types_made}
use Rattle.seed_tables.proofs.PlaceLemmas.{same-default}
use Rattle.seed_tables.proofs.ReadLemmas.{IsMade}
use Rattle.seed_tables.proofs.RouteLemmas.{IsAt, later}

-- a minute costs whoever may fly it at least the least
rates : (acts : List ActivitySeen) (tails : List TailSeen) (p q : Bool) (d : ℕ)
    → covers_type (if p then [] else 1 ∷ []) (if q then 0 else 1) ≡ true
    → (if is_empty (if p then [] else 1 ∷ []) then 1 else 2) * d ≤ type_rate (book_with acts tails) (if q then 0 else 1) * d
rates acts tails true true d e = omega arith
rates acts tails true false d e = omega arith
rates acts tails false true d e = cc e
rates acts tails false false d e = omega arith

module _ (acts : List ActivitySeen) (tails : List TailSeen) where
  -- a flight costs its own aircraft the least
  least-is : (n : ℕ) (f : Flight) → IsMade f → IsAt acts n f → least_cost (book_with acts tails) n ≡ flight_cost f
  least-is n f made here =
      let same : f.end ≡ f.start + (f.end - f.start) = omega (arith, made.lasts) in
      let minutes : pos (first_minute + f.end) -ℤ pos (first_minute + f.start) ≡ pos (f.end - f.start) =
      subst (λ (e : ℕ). pos (first_minute + e) -ℤ pos (first_minute + f.start) ≡ pos (f.end - f.start)) (sym same) (later first_minute f.start (f.end - f.start)) in
      rw (here.is, minutes) (by (f.aircraft % 2 == 0))
    where
      by : (b : Bool) → (if is_empty (if b then [] else 1 ∷ []) then 1 else 2) * (f.end - f.start) ≡ (if b then 1 else 2) * (f.end - f.start)
      by true = refl
      by false = refl

  -- and anybody who may fly it at least that
  least-of : (k home n : ℕ) (f : Flight) → slice_index_or tails k no_tail ≡ tail_made k home → IsMade f → IsAt acts n f
      → IsAllowed (book_with acts tails) k n → least_cost (book_with acts tails) n ≤ activity_cost (book_with acts tails) k n
  least-of k home n f is_tail made here may =
      let same : f.end ≡ f.start + (f.end - f.start) = omega (arith, made.lasts) in
      let minutes : pos (first_minute + f.end) -ℤ pos (first_minute + f.start) ≡ pos (f.end - f.start) =
      subst (λ (e : ℕ). pos (first_minute + e) -ℤ pos (first_minute + f.start) ≡ pos (f.end - f.start)) (sym same) (later first_minute f.start (f.end - f.start)) in
      let covers : covers_type (types_made f.aircraft) (kind_made k) ≡ true = rw (here.is, is_tail) at may.type in
      rw (here.is, is_tail, minutes)
      (more _ _ (rates acts tails (f.aircraft % 2 == 0) (k % 2 == 0) (f.end - f.start) covers))
    where
      more : (a b : ℕ) → a ≤ b → a ≤ b + 0
      more a b h = omega arith

  module _ (each : (n : ℕ) → n < length acts → (f : Flight) × IsMade f × IsAt acts n f) where
    -- so a legal route costs at least the least of its flights together
    route-least : (k home : ℕ) (x : Place) (values : List ℤ) (route : List ℕ) → slice_index_or tails k no_tail ≡ tail_made k home
        → IsLegalFrom (book_with acts tails) k x values route
        → sum_by (least_cost (book_with acts tails)) route ≤ cost_from (book_with acts tails) k x route
    route-least k home x values [] is_tail legal = omega arith
    route-least k home x values (b ∷ rest) is_tail legal =
        let book = book_with acts tails in
        let (f, made, here) = each b legal.0 in
        let first = least-of k home b f is_tail made here legal.1.after in
        let others = route-least k home (After b) (step book k x b values) rest is_tail legal.3 in
        omega (arith, sum_by-cons (least_cost book) b rest, first, others)

    pub plan-least : (k : ℕ) (plan : List (List ℕ))
        → ((i j : ℕ) → i < length plan → k + i ≡ j → (home : ℕ) × (slice_index_or tails j no_tail ≡ tail_made j home))
        → ((i j : ℕ) → i < length plan → k + i ≡ j → IsLegalRoute (book_with acts tails) j (route_of plan i))
        → sum_by (least_cost (book_with acts tails)) (all_flown plan) ≤ cost_of_routes (book_with acts tails) k plan
    plan-least k [] are legal = omega arith
    plan-least k (route ∷ plan) are legal =
        let book = book_with acts tails in
        let (home, is_tail) = are 0 k (omega arith) (omega arith) in
        let first : sum_by (least_cost book) route ≤ route_cost book k route =
        route-least k home Carry _ route is_tail (legal 0 k (omega arith) (omega arith)) in
        let others = plan-least (k + 1) plan (λ i j h e. are (suc i) j (omega arith) (omega arith)) (λ i j h e. legal (suc i) j (omega arith) (omega arith)) in
        omega (arith, sum_by-append (least_cost book) route (all_flown plan), first, others)

as-total : (f : ℕ → ℕ) (xs : List ℕ) → total (map (λ (x : ℕ). pos (f x)) xs) ≡ pos (sum_by f xs)
as-total f [] = refl
as-total f (x ∷ xs) = rw (as-total f xs, sum_by-cons f x xs) refl

same-number : (m n : ℕ) → pos m ≡ pos n → m ≡ n
same-number m n e = omega (arith, ints, e)

-- two legal plans fly the same, so any sum over what they fly is the same
pub same-sum : (book : BookSeen) (f : ℕ → ℕ) (one other : List (List ℕ)) → IsLegalPlan book one → IsLegalPlan book other
    → sum_by f (all_flown one) ≡ sum_by f (all_flown other)
same-sum book f one other legal_one legal_other =
    same-number (sum_by f (all_flown one)) (sum_by f (all_flown other))
    (sym (as-total f (all_flown one)) ∙ total_of_partition (activities book) (λ (x : ℕ). pos (f x)) (all_flown one) (plan_parts book one legal_one)
    ∙ sym (total_of_partition (activities book) (λ (x : ℕ). pos (f x)) (all_flown other) (plan_parts book other legal_other)) ∙ as-total f (all_flown other))

-- what the flights cost the aircraft for which they were made is the least of all of them together
pub least-sum : (acts : List ActivitySeen) (tails : List TailSeen) (number : Flight → ℕ) (flights : List Flight) → All IsMade flights
    → All (λ f. IsAt acts (number f) f) flights → sum_by (least_cost (book_with acts tails)) (map number flights) ≡ sum_by flight_cost flights
least-sum acts tails number [] made placed = refl
least-sum acts tails number (f ∷ flights) made placed =
    sum_by-cons (least_cost (book_with acts tails)) (number f) (map number flights)
    ∙ rw (
      least-is acts tails (number f) f (All-head IsMade f flights made) (All-head (λ g. IsAt acts (number g) g) f flights placed),
      least-sum acts tails number flights (All-tail IsMade f flights made) (All-tail (λ g. IsAt acts (number g) g) f flights placed),
    )
    (sym (sum_by-cons flight_cost f flights))

no_flight : Flight
no_flight = record { aircraft = 0; number = 0; from = 0; to = 0; start = 0; end = 0 }

-- each activity of any order is a flight of the making
pub each-made : (flights : List Flight) (acts : List ActivitySeen) → All IsMade flights → IsPermutation (map activity_made flights) acts
    → (n : ℕ) → n < length acts → (f : Flight) × IsMade f × IsAt acts n f
each-made flights acts made moved n within =
    let a = get_or acts n no_activity in
    let has : Contains acts a = (n, within, same-default acts n a no_activity within) in
    let (i, inside, is) = Contains-permutation acts (map activity_made flights) a (IsPermutation-sym (map activity_made flights) acts moved) has in
    let among : i < length flights = rw (← length-map flights activity_made) inside in
    let flight : activity_made (get_or flights i no_flight) ≡ a = sym (get_or-map activity_made flights i no_flight a among) ∙ is in
    (get_or flights i no_flight, made i no_flight among, record { within = within; is = sym flight })
