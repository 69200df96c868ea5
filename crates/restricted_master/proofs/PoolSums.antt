-- The Lagrangian sum over a pool as a function of one dual, and what is kept when that dual moves. What an aircraft
-- takes at a dual is its least weight in the pool, so the sum is that part of it which the choices give, and a rest
-- that the dual does not move. Two duals then differ in the sum by what they differ in that part, so the best of the
-- part is the best.
use Rattle.std.proofs.Common.{◌≡◌, ◌<◌, ◌≤ℤ◌, ◌<ℤ◌, ◌+ℤ◌, ◌-ℤ◌, ℕ, zero, suc, ℤ, pos, arith, refl, sym, ◌∙◌, ap, ap₂, subst, inl, inr, Bool, true, false, List, [], ◌∷◌, length, get_or, set, map, Option, Some, None}
use Rattle.std.proofs.lemmas.Int.{ints}
use Rattle.std.proofs.lemmas.Bool.{cases_eq, both_ways, eq-eqb}
use Rattle.std.proofs.lemmas.List.{ext_get_or, length-set, length-map, get_or_default, get_or-map, get_or-set_same, get_or-set_other, set-get_or}
use Rattle.std.proofs.lemmas.List.FromFn.{length-map-range_with_len, get_or-map-range_with_len}
use Rattle.std.specs.Prelude.{All, filter}
use Rattle.std.specs.Option.{unwrap_or}
use Rattle.tail_book.specs.Seen.{BookSeen}
use Rattle.tail_book.specs.TableSeen.{CostTableSeen}
use Rattle.tail_book.specs.Lookup.{activities, aircraft}
use Rattle.tail_book.specs.Numbers.{contains}
use Rattle.tail_book.specs.CostTable.{IsInBox}
use Rattle.tail_book.specs.Sums.{total}
use Rattle.branch_marks.specs.Bound.{value_of}
use Rattle.branch_marks.specs.Weights.{dual}
use Rattle.branch_marks.specs.Pool.{Pooled, LeastInIsLeast, least_in, sum_in, values_in}
use Rattle.branch_marks.specs.Settled.{with_dual}
use Rattle.restricted_master.specs.Seen.{PoolSeen, RouteListsSeen}
use Rattle.restricted_master.specs.Pool.{aircraft_at, entry_at, HasRoutes}
use Rattle.restricted_master.specs.Lists.{is_of, has, in_order, list_at}
use Rattle.restricted_master.specs.declared.choice.Choice.{Choice}
use Rattle.restricted_master.specs.inside.Choices.{choice_at, taken_at, part_at, IsBetter}
use Rattle.restricted_master.specs.inside.Least.{weight_at, entry_weight, IsChoiceOf, IsWeighed}
use Rattle.restricted_master.specs.inside.Moving.{IsSettledAt}
use Rattle.restricted_master.proofs.LeastBelow.{below_one}
use Rattle.restricted_master.proofs.Members.{true_or_false, in_list, into_list}
use Rattle.restricted_master.proofs.PoolLeast.{from_least_in}
use Rattle.restricted_master.proofs.Shifted.{shifted, taken_least, weight_with, weight_without}

pub total_set : (xs : List ℤ) (a : ℕ) (v : ℤ) → a < length xs → total (set xs a v) ≡ ((total xs -ℤ get_or xs a (pos 0)) +ℤ v)
total_set [] a v below = absurd (omega (arith, below))
total_set (x ∷ xs) zero v below = omega (arith, ints)
total_set (x ∷ xs) (suc a) v below = let rest = total_set xs a v (omega (arith, below)) in omega (arith, ints, rest)

all_set : (P : ℤ → Type 0) (xs : List ℤ) (a : ℕ) (v : ℤ) → All P xs → P v → All P (set xs a v)
all_set P xs a v all here k d lt = elim (cases_eq k a) [
  | inl e ↦
      (let below : a < length xs = omega (arith, lt, e, length-set xs a v) in
      subst P (sym (ap (λ (j : ℕ). get_or (set xs a v) j d) e ∙ get_or-set_same xs a v d below)) here)
  | inr ne ↦ subst P (sym (get_or-set_other xs a k v d ne)) (all k d (subst (λ (n : ℕ). k < n) (length-set xs a v) lt))
]

sum_parts : (all before duals values dual taken v : ℤ) → all ≡ (duals +ℤ values) → duals ≡ ((before -ℤ dual) +ℤ v) → values ≡ taken
    → all ≡ ((before -ℤ dual) +ℤ (v +ℤ taken))
sum_parts all before duals values dual taken v e f g = omega (arith, ints, e, f, g)

no_gain : (rest now other here other_part : ℤ) → now ≡ (rest +ℤ here) → other ≡ (rest +ℤ other_part) → other_part <ℤ (here +ℤ pos 1000)
    → other <ℤ (now +ℤ pos 1000)
no_gain rest now other here other_part e f less = omega (arith, ints, e, f, less)

a_gain : (rest now other here best_part : ℤ) → now ≡ (rest +ℤ here) → other ≡ (rest +ℤ best_part) → (here +ℤ pos 1000) ≤ℤ best_part
    → (now +ℤ pos 1000) ≤ℤ other
a_gain rest now other here best_part e f more = omega (arith, ints, e, f, more)

falls_by_rise : (w u v : ℤ) → (w -ℤ (v -ℤ u)) ≡ ((w +ℤ u) -ℤ v)
falls_by_rise w u v = omega (arith, ints)

not_true : (b : Bool) → (b ≡ true → ⊥) → b ≡ false
not_true true h = absurd (h refl)
not_true false h = refl

module _ (is_least : LeastInIsLeast) (table : CostTableSeen) (book : BookSeen) (pool : PoolSeen) (lists : RouteListsSeen) (duals weights values : List ℤ) (a : ℕ)
    (choices : List Choice) (weighed : IsWeighed table book pool lists duals weights values) (routes : HasRoutes book pool) (activity : a < activities book)
    (each : length choices ≡ aircraft book)
    (chosen : (k : ℕ) → k < aircraft book → IsChoiceOf pool weights a (dual duals a) k (choice_at choices k)) where
  has_dual : a < length duals
  has_dual = omega (arith, activity, weighed.duals_of.one_each)

  some_route : (k : ℕ) → k < aircraft book → (i : ℕ) × (i < length pool.entries) × (is_of pool k i ≡ true)
  some_route k lt =
      let (i, entry, below, at, of_it) = routes k lt in
      let same : entry_at pool i ≡ entry = get_or_default pool.entries i (record { aircraft = 0; route = [] }) entry below ∙ at in
      (i, below, eq-eqb k (aircraft_at pool i) (sym (ap (λ (x : Pooled). x.aircraft) same ∙ of_it)))

  -- what an aircraft takes at a dual is its least weight in the pool
  pub taken_in : (v : ℤ) (k : ℕ) → k < aircraft book
      → least_in table book (with_dual duals a v) k pool.entries ≡ Some (taken_at v (choice_at choices k).with (choice_at choices k).without)
  taken_in v k lt =
      below_one (length pool.entries) (is_of pool k) (λ i. entry_weight table book (with_dual duals a v) (entry_at pool i))
      (least_in table book (with_dual duals a v) k pool.entries) (Some (taken_at v (choice_at choices k).with (choice_at choices k).without))
      (from_least_in table book pool (with_dual duals a v) k (least_in table book (with_dual duals a v) k pool.entries)
      (is_least table book (with_dual duals a v) k pool.entries))
      (taken_least (length pool.entries) (is_of pool k) (has pool a) (weight_at weights) (λ i. entry_weight table book (with_dual duals a v) (entry_at pool i)) (dual duals a) v
      (λ i below it.
      weight_with table book (activities book) duals a v (entry_at pool i) (weighed.pool_for.rising i (record { aircraft = 0; route = [] }) below) has_dual it
      ∙ ap (λ (z : ℤ). (z +ℤ dual duals a) -ℤ v) (sym (weighed.weights_of.weighs i below)))
      (λ i below lacks.
      weight_without table book (activities book) duals a v (entry_at pool i) (weighed.pool_for.rising i (record { aircraft = 0; route = [] }) below) lacks
      ∙ sym (weighed.weights_of.weighs i below))
      (choice_at choices k).with (choice_at choices k).without (chosen k lt).with (chosen k lt).without (some_route k lt))

  values_taken : (v : ℤ) → values_in table book (with_dual duals a v) pool.entries ≡ map (λ (c : Choice). taken_at v c.with c.without) choices
  values_taken v =
      ext_get_or (pos 0) (values_in table book (with_dual duals a v) pool.entries) (map (λ (c : Choice). taken_at v c.with c.without) choices)
      (long ∙ sym each ∙ sym (length-map choices (λ (c : Choice). taken_at v c.with c.without)))
      (λ k lt.
      let of_book : k < aircraft book = subst (λ (n : ℕ). k < n) long lt in
      get_or-map-range_with_len (λ j. unwrap_or (least_in table book (with_dual duals a v) j pool.entries) (pos 0)) 0 (aircraft book) k k (pos 0) of_book (omega arith)
      ∙ ap (λ (o : Option ℤ). unwrap_or o (pos 0)) (taken_in v k of_book)
      ∙ sym (get_or-map (λ (c : Choice). taken_at v c.with c.without) choices k (record { with = None; without = None }) (pos 0) (subst (λ (n : ℕ). k < n) (sym each) of_book)))
    where
      long : length (values_in table book (with_dual duals a v) pool.entries) ≡ aircraft book
      long = length-map-range_with_len (λ k. unwrap_or (least_in table book (with_dual duals a v) k pool.entries) (pos 0)) 0 (aircraft book)

  -- so the sum is that part of it, and what the dual does not move
  pub sum_taken : (v : ℤ) → sum_in table book (with_dual duals a v) pool.entries ≡ ((total duals -ℤ dual duals a) +ℤ part_at v choices)
  sum_taken v =
      sum_parts (sum_in table book (with_dual duals a v) pool.entries) (total duals) (total (with_dual duals a v))
      (total (values_in table book (with_dual duals a v) pool.entries)) (dual duals a) (total (map (λ (c : Choice). taken_at v c.with c.without) choices)) v
      refl (total_set duals a v has_dual) (ap total (values_taken v))

  sum_now : sum_in table book duals pool.entries ≡ ((total duals -ℤ dual duals a) +ℤ part_at (dual duals a) choices)
  sum_now = ap (λ (us : List ℤ). sum_in table book us pool.entries) (sym (set-get_or duals a (pos 0))) ∙ sum_taken (dual duals a)

  pub settled_at : IsBetter table choices (dual duals a) None → IsSettledAt table book pool.entries duals a
  settled_at none value box =
      no_gain (total duals -ℤ dual duals a) (sum_in table book duals pool.entries) (sum_in table book (with_dual duals a value) pool.entries)
      (part_at (dual duals a) choices) (part_at value choices) sum_now (sum_taken value) (none value box)

  pub gains : (best : ℤ) → IsBetter table choices (dual duals a) (Some best)
      → (sum_in table book duals pool.entries +ℤ pos 1000) ≤ℤ sum_in table book (with_dual duals a best) pool.entries
  gains best more =
      a_gain (total duals -ℤ dual duals a) (sum_in table book duals pool.entries) (sum_in table book (with_dual duals a best) pool.entries)
      (part_at (dual duals a) choices) (part_at best choices) sum_now (sum_taken best) more.1

  -- the list of the activity has exactly its routes
  listed : (i : ℕ) → i < length pool.entries → contains (list_at lists.by_activity a) i ≡ has pool a i
  listed i lt = ap (λ (xs : List ℕ). contains xs i) (weighed.lists_of.by_activity a activity) ∙ elim (true_or_false (has pool a i)) [
    | inl it ↦ into_list pool (aircraft book) a i lt (weighed.pool_for.aircraft i (record { aircraft = 0; route = [] }) lt) it ∙ sym it
    | inr lacks ↦ not_true (contains (filter (has pool a) (in_order pool (aircraft book))) i)
        (λ e. both_ways (has pool a i) lacks (in_list pool (aircraft book) a i e).1) ∙ sym lacks
  ]

  later_weight : (to : ℤ) (i : ℕ) → i < length pool.entries
      → shifted (has pool a i) (weight_at weights i) (to -ℤ dual duals a) ≡ entry_weight table book (with_dual duals a to) (entry_at pool i)
  later_weight to i lt = elim (true_or_false (has pool a i)) [
    | inl it ↦ ap (λ (b : Bool). shifted b (weight_at weights i) (to -ℤ dual duals a)) it ∙ falls_by_rise (weight_at weights i) (dual duals a) to
        ∙ ap (λ (z : ℤ). (z +ℤ dual duals a) -ℤ to) (weighed.weights_of.weighs i lt)
        ∙ sym (weight_with table book (activities book) duals a to (entry_at pool i) (weighed.pool_for.rising i (record { aircraft = 0; route = [] }) lt) has_dual it)
    | inr lacks ↦ ap (λ (b : Bool). shifted b (weight_at weights i) (to -ℤ dual duals a)) lacks ∙ weighed.weights_of.weighs i lt
        ∙ sym (weight_without table book (activities book) duals a to (entry_at pool i) (weighed.pool_for.rising i (record { aircraft = 0; route = [] }) lt) lacks)
  ]

  pub weighed_later : (to rise : ℤ) (numbers : List ℕ) (later_weights later_values : List ℤ) → IsInBox table to → rise ≡ (to -ℤ dual duals a)
      → numbers ≡ list_at lists.by_activity a → length later_weights ≡ length weights
      → ((i : ℕ) → i < length later_weights → weight_at later_weights i ≡ shifted (contains numbers i) (weight_at weights i) rise)
      → length later_values ≡ length values
      → ((k : ℕ) → k < length later_values → value_of later_values k ≡ taken_at to (choice_at choices k).with (choice_at choices k).without)
      → IsWeighed table book pool lists (with_dual duals a to) later_weights later_values
  weighed_later to rise numbers later_weights later_values box rise_is numbers_is many_weights weighs many_values takes = record {
    table_for = weighed.table_for;
    pool_for = weighed.pool_for;
    lists_of = weighed.lists_of;
    duals_of = record {
      one_each = length-set duals a to ∙ weighed.duals_of.one_each;
      box = all_set (IsInBox table) duals a to weighed.duals_of.box box;
    };
    weights_of = record {
      each = many_weights ∙ weighed.weights_of.each;
      weighs = λ i lt.
          weighs i (subst (λ (n : ℕ). i < n) (sym (many_weights ∙ weighed.weights_of.each)) lt)
          ∙ ap₂ (λ (b : Bool) (r : ℤ). shifted b (weight_at weights i) r) (ap (λ (xs : List ℕ). contains xs i) numbers_is ∙ listed i lt) rise_is
          ∙ later_weight to i lt;
    };
    values_of = record {
      each = many_values ∙ weighed.values_of.each;
      least = λ k lt. taken_in to k lt ∙ ap Some (sym (takes k (subst (λ (n : ℕ). k < n) (sym (many_values ∙ weighed.values_of.each)) lt)));
    };
  }
