-- The least weight of each aircraft, over the list of its own routes. That list has exactly its routes, so the least over
-- its places is the least in the pool, and it is not empty where the aircraft has a route. And what duals and values sum up
-- to is the sum over the pool, so it may be compared before the duals move.
use Rattle.std.proofs.Common.{◌≡◌, ◌<◌, ◌<ℤ◌, ◌∙◌, ℕ, ℤ, arith, sym, ap, subst, true, Bool, List, [], length, Some}
use Rattle.std.proofs.lemmas.Bool.{eq-eqb}
use Rattle.std.proofs.lemmas.List.{get_or_default}
use Rattle.std.specs.Prelude.{Any, ◌&&◌}
use Rattle.tail_book.specs.Seen.{BookSeen}
use Rattle.tail_book.specs.TableSeen.{CostTableSeen}
use Rattle.branch_marks.specs.Bound.{lagrangian}
use Rattle.branch_marks.specs.Pool.{Pooled, LeastInIsLeast, least_in, sum_in}
use Rattle.restricted_master.specs.Seen.{PoolSeen, RouteListsSeen}
use Rattle.restricted_master.specs.Pool.{aircraft_at, entry_at}
use Rattle.restricted_master.specs.Lists.{is_of, list_at, AreListsOf}
use Rattle.restricted_master.specs.inside.Leaps.{IsLeastOf}
use Rattle.restricted_master.specs.inside.Least.{entry_weight, weight_at, AreValues, AreWeights}
use Rattle.restricted_master.proofs.Chosen.{own_members, own_places}
use Rattle.restricted_master.proofs.LeastBelow.{below_one, below_same, to_numbers}
use Rattle.restricted_master.proofs.PoolLeast.{from_least_in, values_are}

and_true : (b : Bool) → (b && true) ≡ b
and_true b = grind arith

module _ (pool : PoolSeen) (n m : ℕ) (lists : RouteListsSeen) (k : ℕ) (lists_of : AreListsOf pool n m lists) (of_book : k < m) where
  -- the list of an aircraft that has a route is not empty
  pub own_some : Any (λ (entry : Pooled). entry.aircraft ≡ k) pool.entries → 0 < length (list_at lists.by_aircraft k)
  own_some (i, entry, below, at, of_it) =
      let same : entry_at pool i ≡ entry = get_or_default pool.entries i (record { aircraft = 0; route = [] }) entry below ∙ at in
      let e : aircraft_at pool i ≡ k = ap (λ (x : Pooled). x.aircraft) same ∙ of_it in
      let (p, within, is) = own_places pool n m lists k lists_of of_book i below (eq-eqb k (aircraft_at pool i) (sym e)) in
      omega (arith, within)

  -- the least of the weights in its list is that in the pool
  pub own_least : LeastInIsLeast → (table : CostTableSeen) (book : BookSeen) (duals weights : List ℤ) (value : ℤ) → AreWeights table book pool duals weights
      → IsLeastOf (list_at lists.by_aircraft k) weights value → least_in table book duals k pool.entries ≡ Some value
  own_least is_least table book duals weights value weighs least =
      below_one (length pool.entries) (is_of pool k) (λ i. entry_weight table book duals (entry_at pool i)) (least_in table book duals k pool.entries) (Some value)
      (from_least_in table book pool duals k (least_in table book duals k pool.entries) (is_least table book duals k pool.entries))
      (below_same (length pool.entries) (λ i. is_of pool k i && true) (is_of pool k) (weight_at weights) (λ i. entry_weight table book duals (entry_at pool i)) (Some value)
      (λ i lt. and_true (is_of pool k i)) weighs.weighs
      (to_numbers (length pool.entries) (list_at lists.by_aircraft k) (is_of pool k) (λ _. true) (weight_at weights) (Some value)
      (own_members pool n m lists k lists_of of_book) (own_places pool n m lists k lists_of of_book) least.least))

-- what duals and values sum up to is the sum over the pool
pub sum_is : (table : CostTableSeen) (book : BookSeen) (pool : PoolSeen) (duals values : List ℤ) → AreValues table book pool duals values
    → lagrangian duals values ≡ sum_in table book duals pool.entries
sum_is table book pool duals values are = ap (lagrangian duals) (sym (values_are table book pool duals values are))

-- so where it rises, that one does
pub sum_rises : (table : CostTableSeen) (book : BookSeen) (pool : PoolSeen) (old was new values : List ℤ) → AreValues table book pool old was
    → AreValues table book pool new values → lagrangian old was <ℤ lagrangian new values → sum_in table book old pool.entries <ℤ sum_in table book new pool.entries
sum_rises table book pool old was new values one other rise =
    subst (λ (z : ℤ). sum_in table book old pool.entries <ℤ z) (sum_is table book pool new values other)
    (subst (λ (z : ℤ). z <ℤ lagrangian new values) (sum_is table book pool old was one) rise)
