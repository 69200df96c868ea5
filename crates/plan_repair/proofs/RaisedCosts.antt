-- By a table with its moves raised a plan costs what it cost, and the raise for each of its moves.
--
-- The entry of an aircraft and an activity is what the table had, with the raise where the activity is moved. So routes
-- go by induction on their activities, and plans on their routes: each move adds the raise once. Connections cost what
-- they cost.
--
-- For a book of at most 1,000 activities such a table keeps its maxima: with each activity at two million and a raise of
-- two thousand million and one, the sums of duals and costs come to 2,004,002,001,002,000,000, which is below 2^61.
use Rattle.std.proofs.Common.{◌≡◌, ◌∙◌, ℕ, zero, suc, ◌+◌, ◌*◌, ◌^◌, ◌<◌, ◌≤◌, Bool, true, false, arith, List, [], ◌∷◌, length, refl, sym, ap, subst, get_or}
use Rattle.std.proofs.Math.Nat.{mul-le-mul}
use Rattle.std.proofs.lemmas.List.{length-replicate}
use Rattle.std.proofs.lemmas.List.Elements.{All-head, All-tail, All-append, All-from_get_or, All-replicate}
use Rattle.std.proofs.lemmas.List.FromFn.{length-map-range_with_len, get_or-map-range_with_len}
use Rattle.std.proofs.lemmas.List.Sums.{sum_by-cons}
use Rattle.std.specs.Prelude.{All, Option, cond}
use Rattle.std.specs.List.{flat_map, range_with_len}
use Rattle.tail_book.specs.Seen.{BookSeen}
use Rattle.tail_book.specs.TableSeen.{CostTableSeen}
use Rattle.tail_book.specs.declared.place.Place.{Place}
use Rattle.tail_book.specs.declared.rules.Band.{Band}
use Rattle.tail_book.specs.declared.place.Place.TheVariants.{Carry, After}
use Rattle.tail_book.specs.Lookup.{activities, aircraft}
use Rattle.tail_book.specs.CostTable.{IsCostTable, IsTableFor, activity_cost_in, connection_cost_in, cost_from_in, cost_of_routes_in}
use Rattle.tail_book.specs.inside.Partition.{LegalPlansFlyTheBook}
use Rattle.tail_book.specs.inside.Sound.{IsBook}
use Rattle.tail_book.proofs.Rows.{entry, rows_length}
use Rattle.tail_book.proofs.Timed.{everywhere}
use Rattle.plan_homes.specs.Moves.{is_moved, moves_in, moves_of_routes}
use Rattle.plan_repair.specs.inside.Raised.{RaisedPlansCost, no_costs, raised, raised_cost, raised_costs}

-- a move costs the raise once
raised_once : (raise : ℕ) (b : Bool) → cond b raise 0 ≡ raise * cond b 1 0
raised_once raise true = omega arith
raised_once raise false = omega arith

raised_most : (raise : ℕ) (b : Bool) → cond b raise 0 ≤ raise
raised_most raise true = omega arith
raised_most raise false = omega arith

at_most : (now was more top raise : ℕ) → now ≡ was + more → was ≤ top → more ≤ raise → now ≤ top + raise
at_most now was more top raise e p q = omega (arith, e, p, q)

-- one activity with its connection, and the rest
summed : (now was more link_now link rest_now rest raise d n : ℕ) → now ≡ was + more → more ≡ raise * d → link_now ≡ link → rest_now ≡ rest + raise * n
    → now + link_now + rest_now ≡ (was + link + rest) + raise * (d + n)
summed now was more link_now link rest_now rest raise d n p q r s = omega (arith, p, q, r, s)

-- one route, and the others
joined : (now was rest_now rest raise d n : ℕ) → now ≡ was + raise * d → rest_now ≡ rest + raise * n → now + rest_now ≡ (was + rest) + raise * (d + n)
joined now was rest_now rest raise d n p q = omega (arith, p, q)

module _ (table : CostTableSeen) (homes : List (Option ℕ)) (raise : ℕ) where
  row_length : (k : ℕ) → length (raised_costs table homes raise k) ≡ table.n
  row_length k = length-map-range_with_len (raised_cost table homes raise k) 0 table.n

  row_entry : (k a : ℕ) → a < table.n → get_or (raised_costs table homes raise k) a 0 ≡ raised_cost table homes raise k a
  row_entry k a lt = get_or-map-range_with_len (raised_cost table homes raise k) 0 table.n a a 0 lt (omega arith)

  raised_entry : (k a : ℕ) → k < table.m → a < table.n → activity_cost_in (raised table homes raise) k a ≡ raised_cost table homes raise k a
  raised_entry k a lk la =
      let same : raised_costs table homes raise (0 + k) ≡ raised_costs table homes raise k = ap (raised_costs table homes raise) (omega arith) in
      entry 0 (raised_costs table homes raise) table.n row_length 0 table.m k a lk la ∙ ap (λ row. get_or row a 0) same ∙ row_entry k a la

  same_connection : (book : BookSeen) (k : ℕ) (x : Place) (b : ℕ) → connection_cost_in (raised table homes raise) book k x b ≡ connection_cost_in table book k x b
  same_connection book k Carry b = refl
  same_connection book k (After x) b = refl

  raised_from : (book : BookSeen) (k : ℕ) (x : Place) (route : List ℕ) → k < table.m → All (λ a. a < table.n) route
      → cost_from_in (raised table homes raise) book k x route ≡ cost_from_in table book k x route + raise * moves_in homes k route
  raised_from book k x [] lk below = omega arith
  raised_from book k x (b ∷ rest) lk below =
      summed (activity_cost_in (raised table homes raise) k b) (activity_cost_in table k b) (cond (is_moved homes k b) raise 0)
      (connection_cost_in (raised table homes raise) book k x b) (connection_cost_in table book k x b)
      (cost_from_in (raised table homes raise) book k (After b) rest) (cost_from_in table book k (After b) rest)
      raise (cond (is_moved homes k b) 1 0) (moves_in homes k rest)
      (raised_entry k b lk (All-head (λ a. a < table.n) b rest below)) (raised_once raise (is_moved homes k b)) (same_connection book k x b)
      (raised_from book k (After b) rest lk (All-tail (λ a. a < table.n) b rest below))
      ∙ ap (λ (n : ℕ). activity_cost_in table k b + connection_cost_in table book k x b + cost_from_in table book k (After b) rest + raise * n)
      (sym (sum_by-cons (λ a. cond (is_moved homes k a) 1 0) b rest))

  raised_routes : (book : BookSeen) (k : ℕ) (plan : List (List ℕ)) → k + length plan ≤ table.m → All (All (λ a. a < table.n)) plan
      → cost_of_routes_in (raised table homes raise) book k plan ≡ cost_of_routes_in table book k plan + raise * moves_of_routes homes k plan
  raised_routes book k [] most below = omega arith
  raised_routes book k (route ∷ plan) most below =
      joined (cost_from_in (raised table homes raise) book k Carry route) (cost_from_in table book k Carry route)
      (cost_of_routes_in (raised table homes raise) book (k + 1) plan) (cost_of_routes_in table book (k + 1) plan) raise (moves_in homes k route) (moves_of_routes homes (k + 1) plan)
      (raised_from book k Carry route (omega (arith, most)) (All-head (All (λ a. a < table.n)) route plan below))
      (raised_routes book (k + 1) plan (omega (arith, most)) (All-tail (All (λ a. a < table.n)) route plan below))

  raised_rows : IsCostTable table → (s m : ℕ) → All (λ c. c ≤ table.fly_max + raise) (flat_map (raised_costs table homes raise) (range_with_len s m))
  raised_rows sound s zero = λ i d lt. absurd (omega (arith, lt))
  raised_rows sound s (suc m) = All-append (λ c. c ≤ table.fly_max + raise) _ _ each (raised_rows sound (s + 1) m)
    where
      each : All (λ c. c ≤ table.fly_max + raise) (raised_costs table homes raise s)
      each = All-from_get_or (λ c. c ≤ table.fly_max + raise) (raised_costs table homes raise s) 0 (λ a lt. within a (subst (λ n. a < n) (row_length s) lt))
        where
          within : (a : ℕ) → a < table.n → get_or (raised_costs table homes raise s) a 0 ≤ table.fly_max + raise
          within a lt =
              let was : activity_cost_in table s a ≤ table.fly_max =
              everywhere (λ c. c ≤ table.fly_max) (λ c. c ≤ table.fly_max) 0 (omega arith) (λ c h. h) table.fly sound.fly (s * table.n + a) in
              at_most _ (activity_cost_in table s a) (cond (is_moved homes s a) raise 0) table.fly_max raise (row_entry s a lt) was (raised_most raise (is_moved homes s a))

-- the law: a plan of the table's activities, with a route for each aircraft, as every legal one is
pub raised_plans : LegalPlansFlyTheBook → RaisedPlansCost
raised_plans fly book table homes raise for plan legal =
    raised_routes table homes raise book 0 plan (omega (arith, legal.one_each, for.aircraft))
    (subst (λ (n : ℕ). All (All (λ a. a < n)) plan) (sym for.activities) (fly book plan legal))

spread : (n sum : ℕ) → n * (1000 * (sum + 1)) ≡ 1000 * (n * sum) + 1000 * n
spread n sum = omega arith

-- a thousand activities, each at two million and the highest raise, in thousandths
sums_most : (n each : ℕ) → n ≤ 1000 → each ≤ 2_002_000_001 → n * (1000 * (n * each + 1)) + 1000 * (n * each) ≤ 2 ^ 61
sums_most n each few cheap =
    let most : n * each ≤ 1000 * 2_002_000_001 = mul-le-mul few cheap in
    let all : n * (n * each) ≤ 1000 * (1000 * 2_002_000_001) = mul-le-mul few most in
    bounded n (n * each) (n * (n * each)) (n * (1000 * (n * each + 1))) few most all (spread n (n * each))
  where
    bounded : (n one all sum : ℕ) → n ≤ 1000 → one ≤ 1000 * 2_002_000_001 → all ≤ 1000 * (1000 * 2_002_000_001) → sum ≡ 1000 * all + 1000 * n
        → sum + 1000 * one ≤ 2 ^ 61
    bounded n one all sum few most every e = omega (arith, few, most, every, e)

pub raised_sound : (table : CostTableSeen) (homes : List (Option ℕ)) (raise : ℕ) → IsCostTable table → table.n ≤ 1000
    → table.fly_max + table.band_max ≤ 2_000_000 → raise ≤ 2_000_000_001 → IsCostTable (raised table homes raise)
raised_sound table homes raise sound few cheap low = record {
  fly = raised_rows table homes raise sound 0 table.m;
  bands = sound.bands;
  sums = sums_most table.n (table.fly_max + raise + table.band_max) few (omega (arith, cheap, low));
}

-- the same of a table that is made so
pub made_sound : (table : CostTableSeen) (homes : List (Option ℕ)) (raise : ℕ) (fly : List ℕ) (bands : List Band) → IsCostTable table → table.n ≤ 1000
    → table.fly_max + table.band_max ≤ 2_000_000 → raise ≤ 2_000_000_001 → fly ≡ (raised table homes raise).fly → bands ≡ table.bands
    → IsCostTable (record { n = table.n; m = table.m; fly = fly; bands = bands; fly_max = table.fly_max + raise; band_max = table.band_max })
made_sound table homes raise fly bands sound few cheap low same_fly same_bands = rw (same_fly, same_bands) (raised_sound table homes raise sound few cheap low)

pub made_for : (book : BookSeen) (table : CostTableSeen) (homes : List (Option ℕ)) (raise : ℕ) (fly : List ℕ) (bands : List Band) (fly_max band_max : ℕ)
    → IsTableFor book table → fly ≡ (raised table homes raise).fly
    → IsTableFor book (record { n = table.n; m = table.m; fly = fly; bands = bands; fly_max = fly_max; band_max = band_max })
made_for book table homes raise fly bands fly_max band_max for same = record {
  activities = for.activities;
  aircraft = for.aircraft;
  entries = ap length same ∙ rows_length (raised_costs table homes raise) table.n (row_length table homes raise) 0 table.m;
}

pub raised_is_for : (book : BookSeen) (table : CostTableSeen) (homes : List (Option ℕ)) (raise : ℕ) → IsTableFor book table → IsTableFor book (raised table homes raise)
raised_is_for book table homes raise for = record {
  activities = for.activities;
  aircraft = for.aircraft;
  entries = rows_length (raised_costs table homes raise) table.n (row_length table homes raise) 0 table.m;
}

-- nothing costs anything
free_most : (n : ℕ) → n ≤ 4000 → n * (1000 * (n * (0 + 0) + 1)) + 1000 * (n * (0 + 0)) ≤ 2 ^ 61
free_most n few =
    let none : n * (0 + 0) ≡ 0 = omega arith in
    let one : n * (1000 * (0 + 1)) ≡ 1000 * n = omega arith in
    rw none (omega (arith, few, one))

pub no_costs_sound : (book : BookSeen) → IsBook book → IsCostTable (no_costs book)
no_costs_sound book sound = record {
  fly = All-replicate (λ (c : ℕ). c ≤ 0) (activities book * aircraft book) 0 (omega arith);
  bands = λ i d lt. absurd (omega (arith, lt));
  sums = free_most (activities book) sound.few_activities;
}

pub no_costs_for : (book : BookSeen) → IsTableFor book (no_costs book)
no_costs_for book = record {
  activities = refl;
  aircraft = refl;
  entries = length-replicate (activities book * aircraft book) 0;
}
