-- The book's own costs: a row for each aircraft, with an entry for each activity, so each cost by the table is the
-- book's. Routes and plans go by induction on their lists.
--
-- That it is a cost table comes from the book's limits: no entry and no band passes its maximum, and with at most 4,000
-- activities at two million each the sums of duals and costs stay within 2^61.
use Rattle.std.proofs.Common.{◌≡◌, ℕ, zero, suc, ◌+◌, ◌*◌, ◌^◌, ◌<◌, ◌≤◌, arith, List, [], ◌∷◌, length, refl, ap, ap₂, ◌∙◌, subst, get_or}
use Rattle.std.proofs.Math.Nat.{mul-le-mul}
use Rattle.std.proofs.lemmas.List.Elements.{All-head, All-tail, All-append, All-from_get_or}
use Rattle.std.proofs.lemmas.List.FromFn.{length-map-range_with_len, get_or-map-range_with_len}
use Rattle.std.specs.Prelude.{All}
use Rattle.std.specs.List.{flat_map, range_with_len}
use Rattle.tail_book.specs.declared.limits.TheConstants.{ENTRY_LIMIT, LEG_COST_LIMIT}
use Rattle.tail_book.specs.Seen.{BookSeen}
use Rattle.tail_book.specs.declared.place.Place.{Place}
use Rattle.tail_book.specs.declared.place.Place.TheVariants.{Carry, After}
use Rattle.tail_book.specs.Lookup.{activities, aircraft}
use Rattle.tail_book.specs.Cost.{activity_cost, connection_cost, cost_from, cost_of_routes, plan_cost}
use Rattle.tail_book.specs.CostTable.{IsCostTable, IsTableFor, activity_cost_in, connection_cost_in, cost_from_in, cost_of_routes_in, plan_cost_in, activity_costs, costs_of}
use Rattle.tail_book.specs.Plan.{IsLegalPlan}
use Rattle.tail_book.specs.inside.Sound.{IsBook}
use Rattle.tail_book.proofs.Costs.{activity_cost_most}
use Rattle.tail_book.proofs.Rows.{entry, rows_length}
use Rattle.tail_book.proofs.Partition.{plan_of_book}

row_length : (book : BookSeen) (k : ℕ) → length (activity_costs book k) ≡ activities book
row_length book k = length-map-range_with_len (activity_cost book k) 0 (activities book)

row_entry : (book : BookSeen) (k a : ℕ) → a < activities book → get_or (activity_costs book k) a 0 ≡ activity_cost book k a
row_entry book k a lt = get_or-map-range_with_len (activity_cost book k) 0 (activities book) a a 0 lt (omega arith)

pub own_costs_for_book : (book : BookSeen) → IsTableFor book (costs_of book)
own_costs_for_book book = record {
  activities = refl;
  aircraft = refl;
  entries = rows_length (activity_costs book) (activities book) (row_length book) 0 (aircraft book);
}

pub own_activity_cost : (book : BookSeen) (k a : ℕ) → k < aircraft book → a < activities book → activity_cost_in (costs_of book) k a ≡ activity_cost book k a
own_activity_cost book k a lk la =
    let same : activity_costs book (0 + k) ≡ activity_costs book k = ap (activity_costs book) (omega arith) in
    entry 0 (activity_costs book) (activities book) (row_length book) 0 (aircraft book) k a lk la ∙ ap (λ row. get_or row a 0) same ∙ row_entry book k a la

pub own_connection_cost : (book : BookSeen) (k : ℕ) (x : Place) (b : ℕ) → connection_cost_in (costs_of book) book k x b ≡ connection_cost book k x b
own_connection_cost book k Carry b = refl
own_connection_cost book k (After x) b = refl

summed : (a b c d e f : ℕ) → a ≡ d → b ≡ e → c ≡ f → a + b + c ≡ d + e + f
summed a b c d e f p q r = omega (arith, p, q, r)

pub own_cost_from : (book : BookSeen) (k : ℕ) (x : Place) (route : List ℕ) → k < aircraft book → All (λ a. a < activities book) route
    → cost_from_in (costs_of book) book k x route ≡ cost_from book k x route
own_cost_from book k x [] lk below = refl
own_cost_from book k x (b ∷ rest) lk below =
    summed _ _ _ _ _ _ (own_activity_cost book k b lk (All-head (λ a. a < activities book) b rest below)) (own_connection_cost book k x b)
    (own_cost_from book k (After b) rest lk (All-tail (λ a. a < activities book) b rest below))

pub own_cost_of_routes : (book : BookSeen) (k : ℕ) (plan : List (List ℕ)) → k + length plan ≤ aircraft book → All (All (λ a. a < activities book)) plan
    → cost_of_routes_in (costs_of book) book k plan ≡ cost_of_routes book k plan
own_cost_of_routes book k [] most below = refl
own_cost_of_routes book k (route ∷ plan) most below =
    ap₂ (λ (a b : ℕ). a + b)
    (own_cost_from book k Carry route (omega (arith, most)) (All-head (All (λ a. a < activities book)) route plan below))
    (own_cost_of_routes book (k + 1) plan (omega (arith, most)) (All-tail (All (λ a. a < activities book)) route plan below))

-- each entry is within its maximum
row_most : (book : BookSeen) → IsBook book → (k : ℕ) → All (λ c. c ≤ ENTRY_LIMIT) (activity_costs book k)
row_most book sound k = All-from_get_or (λ c. c ≤ ENTRY_LIMIT) (activity_costs book k) 0 (λ i lt. within i (subst (λ n. i < n) (row_length book k) lt))
  where
    within : (i : ℕ) → i < activities book → get_or (activity_costs book k) i 0 ≤ ENTRY_LIMIT
    within i lt = let same = row_entry book k i lt in let most = activity_cost_most book sound k i lt in omega (arith, same, most)

rows_most : (book : BookSeen) → IsBook book → (s m : ℕ) → All (λ c. c ≤ ENTRY_LIMIT) (flat_map (activity_costs book) (range_with_len s m))
rows_most book sound s zero = λ i d lt. absurd (omega (arith, lt))
rows_most book sound s (suc m) = All-append (λ c. c ≤ ENTRY_LIMIT) _ _ (row_most book sound s) (rows_most book sound (s + 1) m)

-- 4,000 activities at two million each, in thousandths
sums_most : (n : ℕ) → n ≤ 4000 → n * (1000 * (n * LEG_COST_LIMIT + 1)) + 1000 * (n * LEG_COST_LIMIT) ≤ 2 ^ 61
sums_most n few =
    let squared : n * n ≤ 4000 * 4000 = mul-le-mul few few in
    spread n (n * n) (n * (1000 * (n * LEG_COST_LIMIT + 1))) few squared (omega arith)
  where
    spread : (n s p : ℕ) → n ≤ 4000 → s ≤ 16_000_000 → p ≡ 2_000_000_000 * s + 1000 * n → p + 1000 * (n * LEG_COST_LIMIT) ≤ 2 ^ 61
    spread n s p few squared e = omega arith

pub own_costs_sound : (book : BookSeen) → IsBook book → IsCostTable (costs_of book)
own_costs_sound book sound = record {
  fly = rows_most book sound 0 (aircraft book);
  bands = λ i d lt. (sound.rules.bands i d lt).cost;
  sums = sums_most (activities book) sound.few_activities;
}

pub own_plan_cost : (book : BookSeen) (plan : List (List ℕ)) → length plan ≡ aircraft book → All (All (λ a. a < activities book)) plan
    → plan_cost_in (costs_of book) book plan ≡ plan_cost book plan
own_plan_cost book plan one_each below = own_cost_of_routes book 0 plan (omega (arith, one_each)) below

pub own_legal_cost : (book : BookSeen) (plan : List (List ℕ)) → IsLegalPlan book plan → plan_cost_in (costs_of book) book plan ≡ plan_cost book plan
own_legal_cost book plan legal = own_plan_cost book plan legal.one_each (plan_of_book book plan legal)
