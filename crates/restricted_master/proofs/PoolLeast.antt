-- The least weight in a pool as the least over the numbers of its routes, and how small weights are. The least weight
-- by its definition is that of some entry, and so of a number, and no number of the aircraft has less. Duals of the box
-- keep each weight within 2^61 of 0. A least weight is that of one route, so it is as small, and sums of so many of
-- them are bounded by their number times 2^61.
use Rattle.std.proofs.Common.{◌≡◌, ◌<◌, ◌≤◌, ◌*◌, ◌≤ℤ◌, ◌^◌, ℕ, suc, ℤ, pos, arith, refl, sym, ◌∙◌, ap, subst, List, [], ◌∷◌, length, get_or, Option, Some, None}
use Rattle.std.proofs.lemmas.Int.{ints}
use Rattle.std.proofs.lemmas.Bool.{eq-eqb, eqb-true}
use Rattle.std.proofs.lemmas.List.{ext_get_or, get_or_default}
use Rattle.std.proofs.lemmas.List.FromFn.{length-map-range_with_len, get_or-map-range_with_len}
use Rattle.std.specs.Option.{unwrap_or}
use Rattle.tail_book.specs.Sums.{total}
use Rattle.std.specs.Prelude.{All}
use Rattle.tail_book.specs.Seen.{BookSeen}
use Rattle.tail_book.specs.TableSeen.{CostTableSeen}
use Rattle.tail_book.specs.declared.place.Place.TheVariants.{Carry}
use Rattle.tail_book.specs.Lookup.{activities, aircraft}
use Rattle.tail_book.specs.CostTable.{IsCostTable, IsInBox, IsTableFor, box_end}
use Rattle.tail_book.specs.inside.RouteBounds.{ReducedCostsAreSmall}
use Rattle.branch_marks.specs.Bound.{value_of}
use Rattle.branch_marks.specs.Weights.{weight, dual}
use Rattle.branch_marks.specs.Pool.{Pooled, IsLeastIn, LeastInIsLeast, least_in, values_in}
use Rattle.restricted_master.specs.Seen.{PoolSeen, RouteListsSeen}
use Rattle.restricted_master.specs.Pool.{aircraft_at, entry_at, HasRoutes}
use Rattle.restricted_master.specs.Lists.{is_of}
use Rattle.restricted_master.specs.inside.Choices.{IsSmall}
use Rattle.restricted_master.specs.inside.Least.{entry_weight, AreValues, EntriesAreSmall, IsLeastBelow, IsWeighed, SumsAreBounded, WeightsAreSmall}
use Rattle.restricted_master.proofs.Listing.{not_equal}

module _ (table : CostTableSeen) (book : BookSeen) (pool : PoolSeen) (duals : List ℤ) (k : ℕ) where
  weighs_of : (entry : Pooled) (value : ℤ) → entry.aircraft ≡ k → value ≤ℤ weight table book k duals entry.route → value ≤ℤ entry_weight table book duals entry
  weighs_of entry value e h = subst (λ (j : ℕ). value ≤ℤ weight table book j duals entry.route) (sym e) h

  pub from_least_in : (o : Option ℤ) → IsLeastIn table book duals k pool.entries o
      → IsLeastBelow (length pool.entries) (is_of pool k) (λ i. entry_weight table book duals (entry_at pool i)) o
  from_least_in None none = λ i lt. not_equal k (aircraft_at pool i) (λ e. none i (record { aircraft = 0; route = [] }) lt (sym e))
  from_least_in (Some value) least = (
    λ i lt pass.
        let e = eqb-true k (aircraft_at pool i) pass in
        weighs_of (entry_at pool i) value (sym e) (least.0 i (record { aircraft = 0; route = [] }) lt (sym e)),
    (let (i, entry, lt, at, of_it) = least.1 in
        let same : entry_at pool i ≡ entry = get_or_default pool.entries i (record { aircraft = 0; route = [] }) entry lt ∙ at in
        let e : aircraft_at pool i ≡ k = ap (λ (x : Pooled). x.aircraft) same ∙ of_it.0 in
        let weighs : entry_weight table book duals (entry_at pool i) ≡ value =
        ap (entry_weight table book duals) same ∙ ap (λ (j : ℕ). weight table book j duals entry.route) of_it.0 ∙ of_it.1 in
        (i, lt, eq-eqb k (aircraft_at pool i) (sym e), weighs)),
  )

-- a dual of the box, and 0, are in it
box_at : (table : CostTableSeen) (duals : List ℤ) (a : ℕ) → All (IsInBox table) duals → a < length duals → IsInBox table (dual duals a)
box_at table duals a box below = box a (pos 0) below

pub entries_are_small : ReducedCostsAreSmall → EntriesAreSmall
entries_are_small law table book pool duals sound for pool_for duals_of i lt =
    law table book sound for (dual duals)
    (λ a below. box_at table duals a duals_of.box (subst (λ (n : ℕ). a < n) (sym duals_of.one_each) below))
    (aircraft_at pool i) Carry (entry_at pool i).route (pool_for.rising i (record { aircraft = 0; route = [] }) lt)

module _ (law : ReducedCostsAreSmall) (table : CostTableSeen) (book : BookSeen) (pool : PoolSeen) (lists : RouteListsSeen) (duals weights values : List ℤ)
    (sound : IsCostTable table) (weighed : IsWeighed table book pool lists duals weights values) where
  entry_small : (i : ℕ) → i < length pool.entries → IsSmall (entry_weight table book duals (entry_at pool i))
  entry_small i lt = entries_are_small law table book pool duals sound weighed.table_for weighed.pool_for weighed.duals_of i lt

  weights_small : All IsSmall weights
  weights_small i d lt =
      let below : i < length pool.entries = subst (λ (n : ℕ). i < n) weighed.weights_of.each lt in
      subst IsSmall (sym (get_or_default weights i d (pos 0) lt ∙ weighed.weights_of.weighs i below)) (entry_small i below)

  values_small : LeastInIsLeast → All IsSmall values
  values_small is_least k d lt =
      let below : k < aircraft book = subst (λ (n : ℕ). k < n) weighed.values_of.each lt in
      let least = from_least_in table book pool duals k (Some (value_of values k))
      (subst (λ (o : Option ℤ). IsLeastIn table book duals k pool.entries o) (weighed.values_of.least k below) (is_least table book duals k pool.entries)) in
      let (i, within, pass, is) = least.1 in
      subst IsSmall (is ∙ sym (get_or_default values k d (pos 0) lt)) (entry_small i within)

small_box : (table : CostTableSeen) (n : ℕ) (z : ℤ) → n * box_end table ≤ 2 ^ 61 → 1 ≤ n → IsInBox table z → IsSmall z
small_box table n z sums some box =
    let most : box_end table ≤ n * box_end table = one_at_most (box_end table) n some in
    record {
      least = omega (arith, ints, box.least, sums, most);
      most = omega (arith, ints, box.most, sums, most);
    }
  where
    one_at_most : (x n : ℕ) → 1 ≤ n → x ≤ n * x
    one_at_most x n le = grind arith

-- and so is a number of the box, where there is an activity
pub small_in_box : (table : CostTableSeen) (book : BookSeen) (a : ℕ) (z : ℤ) → IsCostTable table → IsTableFor book table → a < activities book → IsInBox table z → IsSmall z
small_in_box table book a z sound for within box =
    let some : 1 ≤ table.n = omega (arith, within, for.activities) in
    let sums : table.n * box_end table ≤ 2 ^ 61 = omega (arith, sound.sums) in
    small_box table table.n z sums some box

pub weights_are_small : LeastInIsLeast → ReducedCostsAreSmall → WeightsAreSmall
weights_are_small is_least law table book pool lists duals weights values sound weighed = (
  weights_small law table book pool lists duals weights values sound weighed,
  values_small law table book pool lists duals weights values sound weighed is_least,
  λ a d lt.
      let within : a < activities book = subst (λ (n : ℕ). a < n) weighed.duals_of.one_each lt in
      small_in_box table book a (get_or duals a d) sound weighed.table_for within (weighed.duals_of.box a d lt),
)

-- a sum of small numbers
total_most : (xs : List ℤ) → All IsSmall xs → total xs ≤ℤ pos (length xs * 2 ^ 61)
total_most [] small = omega (arith, ints)
total_most (x ∷ xs) small =
    let here = small 0 (pos 0) (omega arith) in
    let rest = total_most xs (λ k d lt. small (suc k) d (omega (arith, lt))) in
    omega (arith, ints, here, rest)

-- the values that are kept are those of the pool
pub values_are : (table : CostTableSeen) (book : BookSeen) (pool : PoolSeen) (duals values : List ℤ) → AreValues table book pool duals values
    → values_in table book duals pool.entries ≡ values
values_are table book pool duals values are =
    ext_get_or (pos 0) (values_in table book duals pool.entries) values (long ∙ sym are.each)
    (λ k lt.
    let of_book : k < aircraft book = subst (λ (n : ℕ). k < n) long lt in
    get_or-map-range_with_len (λ j. unwrap_or (least_in table book duals j pool.entries) (pos 0)) 0 (aircraft book) k k (pos 0) of_book (omega arith)
    ∙ ap (λ (o : Option ℤ). unwrap_or o (pos 0)) (are.least k of_book))
  where
    long : length (values_in table book duals pool.entries) ≡ aircraft book
    long = length-map-range_with_len (λ k. unwrap_or (least_in table book duals k pool.entries) (pos 0)) 0 (aircraft book)

pub sums_are_bounded : LeastInIsLeast → ReducedCostsAreSmall → SumsAreBounded
sums_are_bounded is_least law table book pool lists duals weights values sound weighed =
    let small = weights_are_small is_least law table book pool lists duals weights values sound weighed in
    let one = total_most duals small.2 in
    let two = total_most values small.1 in
    let same = ap total (values_are table book pool duals values weighed.values_of) in
    let many = weighed.duals_of.one_each in
    let each = weighed.values_of.each in
    omega (arith, ints, one, two, same, many, each)

-- where each aircraft has a route, the least weights in the pool are the values of all aircraft
pub values_from : LeastInIsLeast → (table : CostTableSeen) (book : BookSeen) (pool : PoolSeen) (duals values : List ℤ) → HasRoutes book pool
    → values ≡ values_in table book duals pool.entries → AreValues table book pool duals values
values_from is_least table book pool duals values routes same = record {
  each = ap length same ∙ length-map-range_with_len (λ k. unwrap_or (least_in table book duals k pool.entries) (pos 0)) 0 (aircraft book);
  least = λ k lt. some k lt (least_in table book duals k pool.entries) refl (is_least table book duals k pool.entries);
}
  where
    read : (k : ℕ) → k < aircraft book → value_of values k ≡ unwrap_or (least_in table book duals k pool.entries) (pos 0)
    read k lt =
        ap (λ (vs : List ℤ). value_of vs k) same
        ∙ get_or-map-range_with_len (λ j. unwrap_or (least_in table book duals j pool.entries) (pos 0)) 0 (aircraft book) k k (pos 0) lt (omega arith)

    some : (k : ℕ) → k < aircraft book → (o : Option ℤ) → least_in table book duals k pool.entries ≡ o → IsLeastIn table book duals k pool.entries o
        → least_in table book duals k pool.entries ≡ Some (value_of values k)
    some k lt None is none =
        let (i, entry, below, at, of_it) = routes k lt in
        absurd (none i entry below (ap (λ (x : Pooled). x.aircraft) at ∙ of_it))
    some k lt (Some v) is least = is ∙ ap Some (sym (read k lt ∙ ap (λ (o : Option ℤ). unwrap_or o (pos 0)) is))
