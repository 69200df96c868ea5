-- Bounds that never fall on the way down. What duals sum to over a pool of routes that fit is at least their Lagrangian sum, since
-- no least weight is undercut there; and where the pool has the least routes it is no more. So duals that come to no less over the
-- pool than those of a place bound no lower, and under fewer facts these bounded no higher.
use Rattle.std.proofs.Common.{◌≡◌, ◌∙◌, ◌<◌, ◌+ℤ◌, ◌≤ℤ◌, ℕ, ℤ, pos, negsuc, arith, List, [], ◌∷◌, ◌++◌, length, get_or, refl, sym, ap, subst, Option, Some, None}
use Rattle.std.proofs.lemmas.Int.{ints}
use Rattle.std.proofs.lemmas.List.FromFn.{length-map-range_with_len, get_or-map-range_with_len}
use Rattle.std.specs.Option.{unwrap_or}
use Rattle.std.specs.Prelude.{All, Any}
use Rattle.tail_book.specs.Seen.{BookSeen}
use Rattle.tail_book.specs.TableSeen.{CostTableSeen}
use Rattle.tail_book.specs.Lookup.{aircraft}
use Rattle.tail_book.specs.Plan.{route_of}
use Rattle.tail_book.specs.Route.{IsLegalRoute}
use Rattle.tail_book.specs.Sums.{total}
use Rattle.tail_book.specs.inside.Sound.{IsBook}
use Rattle.branch_marks.specs.declared.fact.Fact.{Fact}
use Rattle.branch_marks.specs.Bound.{AreLeastWeights, bound_of, value_of}
use Rattle.branch_marks.specs.DeadEnds.{IsStuck}
use Rattle.branch_marks.specs.Marks.{Fits}
use Rattle.branch_marks.specs.Pool.{Pooled, IsFittingEntry, least_in, IsLeastIn, LeastInIsLeast, sum_in, values_in}
use Rattle.branch_marks.specs.Settled.{AreRoutesOfWeights, IsSum, SumsExist}
use Rattle.branch_marks.specs.Weights.{WeighsAtLeast}
use Rattle.branch_marks.specs.inside.MoreFacts.{SumsNeverFall}
use Rattle.branch_marks.proofs.MoreFacts.{among_added}
use Rattle.branch_marks.proofs.Settled.{total_below}
use Rattle.restricted_master.specs.Seen.{PoolSeen}
use Rattle.branch_tree.specs.Laws.{BranchesBoundNoLower}
use Rattle.branch_tree.specs.Step.{IsTrueStep, ReachesBoundOf, RisesFrom}
use Rattle.branch_tree.specs.declared.step.NodeEnd.{NodeEnd}
use Rattle.branch_tree.specs.declared.step.NodeEnd.TheVariants as end
use Rattle.branch_tree.specs.declared.step.Step.{Step}
use Rattle.branch_tree.specs.declared.step.Step.TheVariants as step
use Rattle.node_leaves.specs.inside.NewRoutes.{entry_of, HasAll}
use Rattle.branch_marks.specs.Following.{IsFollowed}
use Rattle.branch_tree.specs.inside.StepParts.{EndRisesFrom, IsEndFound}
use Rattle.branch_tree.proofs.Pools.{pool_least}

-- sums as bounds keep their order
bounds_in_order : (low sum : ℤ) → low ≤ℤ sum → pos (bound_of low) ≤ℤ pos (bound_of sum)
bounds_in_order (pos m) (pos n) h = h
bounds_in_order (pos m) (negsuc n) h = absurd (omega (arith, ints, h))
bounds_in_order (negsuc m) (pos n) h = omega (arith, ints)
bounds_in_order (negsuc m) (negsuc n) h = omega (arith, ints)

more_below : (duals old new : ℤ) → old ≤ℤ new → (duals +ℤ old) ≤ℤ (duals +ℤ new)
more_below duals old new h = omega (arith, ints, h)

module _ (table : CostTableSeen) (book : BookSeen) (duals : List ℤ) (pool : List Pooled) where
  -- the value of an aircraft over the pool
  value_over : (k : ℕ) → k < aircraft book → get_or (values_in table book duals pool) k (pos 0) ≡ unwrap_or (least_in table book duals k pool) (pos 0)
  value_over k below = get_or-map-range_with_len (λ j. unwrap_or (least_in table book duals j pool) (pos 0)) 0 (aircraft book) k k (pos 0) below (omega arith)

  values_each : length (values_in table book duals pool) ≡ aircraft book
  values_each = length-map-range_with_len (λ k. unwrap_or (least_in table book duals k pool) (pos 0)) 0 (aircraft book)

  module _ (lowest : LeastInIsLeast) (marks : List Fact) (fitting : All (IsFittingEntry book marks) pool) where
    -- what no route that fits undercuts, no route in the pool does
    low_over : (k : ℕ) (low : ℤ) → WeighsAtLeast table book marks k duals low → Any (λ (entry : Pooled). entry.aircraft ≡ k) pool → (o : Option ℤ)
        → IsLeastIn table book duals k pool o → low ≤ℤ unwrap_or o (pos 0)
    low_over k low weighs some None none =
        let (i, entry, lt, at, of_it) = some in
        absurd (none i entry lt (ap (λ (e : Pooled). e.aircraft) at ∙ of_it))
    low_over k low weighs some (Some value) least =
        let (i, entry, lt, at, of_it) = least.1 in
        let (same, weighing) = of_it in
        let fits = subst (λ (e : Pooled). IsFittingEntry book marks e) at (fitting i entry lt) in
        let here = weighs entry.route (subst (λ (j : ℕ). IsLegalRoute book j entry.route) same fits.legal)
        (subst (λ (j : ℕ). Fits book marks j entry.route) same fits.fits) in
        subst (λ (z : ℤ). low ≤ℤ z) weighing here

    -- so the Lagrangian sum is at most that over a pool with a route of each aircraft
    pub sum_below_pool : ((k : ℕ) → k < aircraft book → Any (λ (entry : Pooled). entry.aircraft ≡ k) pool) → (sum : ℤ) → IsSum table book marks duals sum
        → sum ≤ℤ sum_in table book duals pool
    sum_below_pool some sum is =
        let (values, least, same) = is in
        subst (λ (z : ℤ). z ≤ℤ sum_in table book duals pool) (sym same)
        (more_below (total duals) (total values) (total (values_in table book duals pool))
        (total_below values (values_in table book duals pool) (least.one_each ∙ sym values_each)
        (λ k lt. let below : k < aircraft book = omega (arith, lt, least.one_each) in
        subst (λ (z : ℤ). value_of values k ≤ℤ z) (sym (value_over k below))
        (low_over k (value_of values k) (least.each k below).least (some k below) (least_in table book duals k pool) (lowest table book duals k pool)))))

    -- and where the pool has the least weights, no less
    pub pool_below_sum : (values : List ℤ) → AreLeastWeights table book marks duals values
        → ((k : ℕ) → k < aircraft book → least_in table book duals k pool ≡ Some (value_of values k)) → (sum : ℤ) → IsSum table book marks duals sum
        → sum_in table book duals pool ≤ℤ sum
    pool_below_sum values least pooled sum is =
        let (others, also, same) = is in
        subst (λ (z : ℤ). sum_in table book duals pool ≤ℤ z) (sym same)
        (more_below (total duals) (total (values_in table book duals pool)) (total others)
        (total_below (values_in table book duals pool) others (values_each ∙ sym also.one_each)
        (λ k lt. let below : k < aircraft book = omega (arith, lt, values_each) in
        let (route, lightest) = (also.each k below).attained in
        subst (λ (z : ℤ). z ≤ℤ value_of others k) (sym (value_over k below ∙ ap (λ (o : Option ℤ). unwrap_or o (pos 0)) (pooled k below)))
        (subst (λ (z : ℤ). value_of values k ≤ℤ z) lightest.weighs ((least.each k below).least route lightest.legal lightest.fits)))))

-- duals that over a pool with the least routes come to no less than those of a place bound no lower than they
module _ (lowest : LeastInIsLeast) (table : CostTableSeen) (book : BookSeen) (marks : List Fact) (from duals : List ℤ) (target : ℕ) (pool : PoolSeen)
    (fitting : All (IsFittingEntry book marks) pool.entries) (values : List ℤ) (routes : List (List ℕ)) (least : AreLeastWeights table book marks duals values)
    (are : AreRoutesOfWeights table book marks duals values routes) (all : HasAll pool routes (length routes))
    (over : sum_in table book from pool.entries ≤ℤ sum_in table book duals pool.entries) where
  some_route : (k : ℕ) → k < aircraft book → Any (λ (entry : Pooled). entry.aircraft ≡ k) pool.entries
  some_route k below =
      let (i, less, at) = all k (omega (arith, below, are.one_each)) in
      (i, entry_of routes k, less, at, refl)

  pooled : (k : ℕ) → k < aircraft book → least_in table book duals k pool.entries ≡ Some (value_of values k)
  pooled k below =
      pool_least lowest table book marks duals pool.entries fitting k (value_of values k) (least.each k below) (route_of routes k)
      (all k (omega (arith, below, are.one_each))) (are.each k below).weighs

  pub end_rises : (end : NodeEnd) → IsEndFound table book marks duals target end → EndRisesFrom table book marks from end
  end_rises (end.Stuck k) found = tt
  end_rises (end.Bounded least_values) found = tt
  end_rises (end.Split pair bound flown dive) found = λ low is.
      let (first, is_first, low_is) = is in
      let (sum, is_sum, bound_is) = found.bounds in
      let one = sum_below_pool table book from pool.entries lowest marks fitting some_route first is_first in
      let two = pool_below_sum table book duals pool.entries lowest marks fitting values least pooled sum is_sum in
      let order = bounds_in_order first sum (omega (arith, ints, one, over, two)) in
      omega (arith, ints, order, low_is, bound_is)

-- a bound that is reached under more facts is reached under fewer, where the duals have a sum under the more
pub reached_before : SumsNeverFall → (table : CostTableSeen) (book : BookSeen) (marks added : List Fact) (duals : List ℤ) (sum bound : ℤ)
    → IsSum table book (marks ++ added) duals sum → pos (bound_of sum) ≤ℤ bound → ReachesBoundOf table book marks duals bound
reached_before never table book marks added duals sum bound is_sum above = λ low is.
    let (first, is_first, low_is) = is in
    let order = never table book marks (marks ++ added) (among_added marks added) duals first sum is_first is_sum in
    let bounds = order.bound in
    omega (arith, ints, bounds, above, low_is)

-- a step that rises from duals under the marks with which it ends rises from them under the marks of its place
pub rises_before : SumsExist → SumsNeverFall → (table : CostTableSeen) (book : BookSeen) → IsBook book → (before after : List Fact) (from duals : List ℤ) (target : ℕ)
    → IsFollowed book before after → (answer : Step) → IsTrueStep table book after duals target answer → RisesFrom table book after from answer
    → RisesFrom table book before from answer
rises_before exist never table book sound before after from duals target followed (step.Hole a) holds rises = tt
rises_before exist never table book sound before after from duals target followed (step.Stuck k) holds rises = tt
rises_before exist never table book sound before after from duals target followed (step.Bounded bound) holds rises = tt
rises_before exist never table book sound before after from duals target followed (step.Split pair bound routes dive) holds rises =
    let (sum, is_sum, bound_is) = holds.bounds in
    let (values, least, same) = is_sum in
    let free : (k : ℕ) → k < aircraft book → ¬ IsStuck book after k =
    λ k below stuck. let (route, lightest) = (least.each k below).attained in stuck route lightest.legal lightest.fits in
    let (reached, is_reached) = exist table book sound after from free in
    let above = rises (pos (bound_of reached)) (reached, is_reached, refl) in
    reached_before never table book before followed.added from reached bound
    (subst (λ (facts : List Fact). IsSum table book facts from reached) followed.marks is_reached) above

-- at a branch the duals of the split bound no lower
pub branches_no_lower : SumsNeverFall → BranchesBoundNoLower
branches_no_lower never table book marks fact duals bound is =
    let (sum, is_sum, bound_is) = is in
    reached_before never table book marks (fact ∷ []) duals sum bound is_sum (omega (arith, ints, bound_is))
