-- The choices of all aircraft: the routes with the activity one after the other, then those without it, aircraft by
-- aircraft. Each is the least over a list that has exactly the routes in question. The hard case is an aircraft whose
-- routes are not walked, since its least weight is below all that have the activity: the route of that weight then
-- lacks it, so the least weight is the one without the activity too.
use Rattle.std.proofs.Common.{◌≡◌, ◌≢◌, ◌<◌, ◌≤◌, ◌+◌, ◌^◌, ◌+ℤ◌, ℕ, ℤ, pos, arith, refl, sym, ◌∙◌, ap, subst, inl, inr, true, false, List, [], length, get_or, set, Option, Some, None}
use Rattle.std.proofs.lemmas.Int.{ints}
use Rattle.std.proofs.lemmas.Bool.{cases_eq, both_ways, eq-eqb, and_from, and_parts}
use Rattle.std.proofs.lemmas.List.{length-set, get_or_default, get_or-set_same, get_or-set_other}
use Rattle.std.specs.Prelude.{All, not, ◌&&◌, filter, slice_index_or}
use Rattle.tail_book.specs.Seen.{BookSeen}
use Rattle.tail_book.specs.TableSeen.{CostTableSeen}
use Rattle.tail_book.specs.Lookup.{activities, aircraft}
use Rattle.tail_book.specs.Numbers.{contains}
use Rattle.branch_marks.specs.Bound.{value_of}
use Rattle.branch_marks.specs.Weights.{dual}
use Rattle.branch_marks.specs.Pool.{IsLeastIn, LeastInIsLeast}
use Rattle.restricted_master.specs.Seen.{PoolSeen, RouteListsSeen}
use Rattle.restricted_master.specs.Pool.{aircraft_at, entry_at}
use Rattle.restricted_master.specs.Lists.{is_of, has, list_at, numbers_of, in_order, AreListsOf}
use Rattle.restricted_master.specs.declared.choice.Choice.{Choice}
use Rattle.restricted_master.specs.inside.Choices.{choice_at, IsSmall, IsSmallChoice, IsSmallWeight}
use Rattle.restricted_master.specs.inside.Least.{lighter, weight_at, entry_weight, IsAbove, IsChoiceOf, IsFound, IsLeastBelow, IsWeighed}
use Rattle.restricted_master.proofs.Listing.{not_equal}
use Rattle.restricted_master.proofs.LeastBelow.{below_fail, below_pass, below_same, small_least, to_numbers}
use Rattle.restricted_master.proofs.PoolLeast.{from_least_in}
use Rattle.restricted_master.proofs.Members.{true_or_false, place_of, at_place, in_numbers, into_numbers, in_list, into_list}

-- the choice of an aircraft, and those of the others
pub choice_set : (choices : List Choice) (j : ℕ) (new : Choice) → j < length choices → choice_at (set choices j new) j ≡ new
choice_set choices j new below = get_or-set_same choices j new (record { with = None; without = None }) below

pub choice_other : (choices : List Choice) (j k : ℕ) (new : Choice) → k ≢ j → choice_at (set choices j new) k ≡ choice_at choices k
choice_other choices j k new ne = get_or-set_other choices j k new (record { with = None; without = None }) ne

module _ (pool : PoolSeen) (numbers : List ℕ) (weights : List ℤ) (dual : ℤ) (choices : List Choice) (q i j : ℕ) where
  -- the least weights with the activity of the first routes
  abbrev IsWithLeast : ℕ → ℕ → Option ℤ → Type 0
  IsWithLeast n k with =
      IsLeastBelow n (λ p. is_of pool k (slice_index_or numbers p 0)) (λ p. weight_at weights (slice_index_or numbers p 0) +ℤ dual) with

  pub with_more : (with without : Option ℤ) (w : ℤ) → ((k : ℕ) → k < length choices → IsWithLeast q k (choice_at choices k).with)
      → get_or numbers q 0 ≡ i → j ≡ aircraft_at pool i → j < length choices → w ≡ weight_at weights i +ℤ dual
      → with ≡ lighter (choice_at choices j).with w → (k : ℕ) → k < length (set choices j (record { with = with; without = without }))
      → IsWithLeast (q + 1) k (choice_at (set choices j (record { with = with; without = without })) k).with
  with_more with without w least is of_it below weighs lightest k lt = elim (cases_eq k j) [
    | inl e ↦
        (let made : choice_at (set choices j (record { with = with; without = without })) k ≡ record { with = with; without = without } =
        ap (choice_at (set choices j (record { with = with; without = without }))) e ∙ choice_set choices j (record { with = with; without = without }) below in
        let passes : is_of pool k (get_or numbers q 0) ≡ true = eq-eqb k (aircraft_at pool (get_or numbers q 0)) (e ∙ of_it ∙ ap (aircraft_at pool) (sym is)) in
        let known : with ≡ lighter (choice_at choices k).with w = lightest ∙ ap (λ (m : ℕ). lighter (choice_at choices m).with w) (sym e) in
        let value : w ≡ weight_at weights (get_or numbers q 0) +ℤ dual = weighs ∙ ap (λ (m : ℕ). weight_at weights m +ℤ dual) (sym is) in
        subst (λ (c : Choice). IsWithLeast (q + 1) k c.with) (sym made)
        (subst (λ (o : Option ℤ). IsWithLeast (q + 1) k o) (sym known)
        (below_pass q (λ p. is_of pool k (slice_index_or numbers p 0)) (λ p. weight_at weights (slice_index_or numbers p 0) +ℤ dual)
        (choice_at choices k).with w (least k (subst (λ (m : ℕ). m < length choices) (sym e) below)) passes value)))
    | inr ne ↦
        (let fails : is_of pool k (get_or numbers q 0) ≡ false =
        not_equal k (aircraft_at pool (get_or numbers q 0)) (λ h. ne (h ∙ ap (aircraft_at pool) is ∙ sym of_it)) in
        let within : k < length choices = omega (arith, lt, length-set choices j (record { with = with; without = without })) in
        subst (λ (c : Choice). IsWithLeast (q + 1) k c.with) (sym (choice_other choices j k (record { with = with; without = without }) ne))
        (below_fail q (λ p. is_of pool k (slice_index_or numbers p 0)) (λ p. weight_at weights (slice_index_or numbers p 0) +ℤ dual)
        (choice_at choices k).with (least k within) fails))
  ]

  pub without_same : (initial : List Choice) (with : Option ℤ) → ((k : ℕ) → k < length choices → (choice_at choices k).without ≡ (choice_at initial k).without)
      → j < length choices → (k : ℕ) → k < length (set choices j (record { with = with; without = (choice_at choices j).without }))
      → (choice_at (set choices j (record { with = with; without = (choice_at choices j).without })) k).without ≡ (choice_at initial k).without
  without_same initial with same below k lt = elim (cases_eq k j) [
    | inl e ↦
        (let within : k < length choices = omega (arith, e, below) in
        ap (λ (m : ℕ). (choice_at (set choices j (record { with = with; without = (choice_at choices j).without })) m).without) e
        ∙ ap (λ (c : Choice). c.without) (choice_set choices j (record { with = with; without = (choice_at choices j).without }) below)
        ∙ ap (λ (m : ℕ). (choice_at choices m).without) (sym e) ∙ same k within)
    | inr ne ↦
        (let within : k < length choices = omega (arith, lt, length-set choices j (record { with = with; without = (choice_at choices j).without })) in
        ap (λ (c : Choice). c.without) (choice_other choices j k (record { with = with; without = (choice_at choices j).without }) ne) ∙ same k within)
  ]

-- what holds of the first so many holds of one more, where it is written there
pub written_more : {X : Type 0} (P : ℕ → X → Type 0) (xs : List X) (j : ℕ) (new default : X) → j < length xs
    → ((k : ℕ) → k < j → P k (get_or xs k default)) → P j new → (k : ℕ) → k < j + 1 → P k (get_or (set xs j new) k default)
written_more P xs j new default below before here k lt = elim (cases_eq k j) [
  | inl e ↦ subst (λ (m : ℕ). P m (get_or (set xs j new) m default)) (sym e) (subst (P j) (sym (get_or-set_same xs j new default below)) here)
  | inr ne ↦ subst (P k) (sym (get_or-set_other xs j k new default ne)) (before k (omega (arith, lt, ne)))
]

pub rest_more : (choices initial : List Choice) (j : ℕ) (new : Choice) → ((k : ℕ) → j ≤ k → choice_at choices k ≡ choice_at initial k)
    → (k : ℕ) → j + 1 ≤ k → choice_at (set choices j new) k ≡ choice_at initial k
rest_more choices initial j new rest k le =
    let ne : k ≢ j = omega (arith, le) in choice_other choices j k new ne ∙ rest k (omega (arith, le))

pub found_here : (pool : PoolSeen) (numbers own : List ℕ) (weights values : List ℤ) (a : ℕ) (dual value : ℤ) (old initial new : Choice) (k : ℕ)
    → IsFound pool numbers weights a (value +ℤ dual) old new → numbers ≡ own → value ≡ value_of values k → old ≡ initial
    → IsFound pool own weights a (value_of values k +ℤ dual) initial new
found_here pool numbers own weights values a dual value old initial new k found own_is value_is old_is =
    subst (λ (xs : List ℕ). IsFound pool xs weights a (value_of values k +ℤ dual) initial new) own_is
    (subst (λ (z : ℤ). IsFound pool numbers weights a (z +ℤ dual) initial new) value_is
    (subst (λ (c : Choice). IsFound pool numbers weights a (value +ℤ dual) c new) old_is found))

module _ (table : CostTableSeen) (book : BookSeen) (pool : PoolSeen) (lists : RouteListsSeen) (duals weights values : List ℤ) (a : ℕ)
    (weighed : IsWeighed table book pool lists duals weights values) (activity : a < activities book) where
  abbrev with_list : List ℕ
  with_list = list_at lists.by_activity a

  with_is : with_list ≡ filter (has pool a) (in_order pool (aircraft book))
  with_is = weighed.lists_of.by_activity a activity

  pub with_members : (p : ℕ) → p < length with_list → (get_or with_list p 0 < length pool.entries) × (has pool a (get_or with_list p 0) ≡ true)
  with_members p below =
      in_list pool (aircraft book) a (get_or with_list p 0) (subst (λ (xs : List ℕ). contains xs (get_or with_list p 0) ≡ true) with_is (at_place with_list p below))

  pub with_places : (i : ℕ) → i < length pool.entries → has pool a i ≡ true → (p : ℕ) × (p < length with_list) × (get_or with_list p 0 ≡ i)
  with_places i lt pass =
      place_of with_list i (subst (λ (xs : List ℕ). contains xs i ≡ true) (sym with_is)
      (into_list pool (aircraft book) a i lt (weighed.pool_for.aircraft i (record { aircraft = 0; route = [] }) lt) pass))

  pub with_all : All (λ i. i < length pool.entries) with_list
  with_all p d lt = subst (λ (i : ℕ). i < length pool.entries) (sym (get_or_default with_list p d 0 lt)) (with_members p lt).0

-- the list of an aircraft has exactly its routes
module _ (pool : PoolSeen) (n m : ℕ) (lists : RouteListsSeen) (k : ℕ) (lists_of : AreListsOf pool n m lists) (of_book : k < m) where
  abbrev own_list : List ℕ
  own_list = list_at lists.by_aircraft k

  own_is : own_list ≡ numbers_of pool k
  own_is = lists_of.by_aircraft k of_book

  pub own_members : (p : ℕ) → p < length own_list → (get_or own_list p 0 < length pool.entries) × (is_of pool k (get_or own_list p 0) ≡ true)
  own_members p below =
      in_numbers pool k (get_or own_list p 0) (subst (λ (xs : List ℕ). contains xs (get_or own_list p 0) ≡ true) own_is (at_place own_list p below))

  pub own_places : (i : ℕ) → i < length pool.entries → is_of pool k i ≡ true → (p : ℕ) × (p < length own_list) × (get_or own_list p 0 ≡ i)
  own_places i lt pass = place_of own_list i (subst (λ (xs : List ℕ). contains xs i ≡ true) (sym own_is) (into_numbers pool k i lt pass))

  pub own_all : All (λ i. i < length pool.entries) own_list
  own_all p d lt = subst (λ (i : ℕ). i < length pool.entries) (sym (get_or_default own_list p d 0 lt)) (own_members p lt).0

module _ (table : CostTableSeen) (book : BookSeen) (pool : PoolSeen) (lists : RouteListsSeen) (duals weights values : List ℤ) (k : ℕ)
    (weighed : IsWeighed table book pool lists duals weights values) (of_book : k < aircraft book) where
  -- an aircraft's value is the least of its routes' weights
  pub value_least : LeastInIsLeast → IsLeastBelow (length pool.entries) (is_of pool k) (weight_at weights) (Some (value_of values k))
  value_least is_least =
      below_same (length pool.entries) (is_of pool k) (is_of pool k) (λ i. entry_weight table book duals (entry_at pool i)) (weight_at weights) (Some (value_of values k))
      (λ i lt. refl) (λ i lt. sym (weighed.weights_of.weighs i lt))
      (from_least_in table book pool duals k (Some (value_of values k))
      (subst (λ (o : Option ℤ). IsLeastIn table book duals k pool.entries o) (weighed.values_of.least k of_book) (is_least table book duals k pool.entries)))

module _ (is_least : LeastInIsLeast) (table : CostTableSeen) (book : BookSeen) (pool : PoolSeen) (lists : RouteListsSeen) (duals weights values : List ℤ) (a k : ℕ)
    (weighed : IsWeighed table book pool lists duals weights values) (activity : a < activities book) (of_book : k < aircraft book) where
  module _ (d : ℤ) (old new : Choice)
      (least : IsLeastBelow (length (list_at lists.by_activity a)) (λ p. is_of pool k (slice_index_or (list_at lists.by_activity a) p 0)) (λ p. weight_at weights (slice_index_or (list_at lists.by_activity a) p 0) +ℤ d) old.with)
      (known : old.without ≡ Some (value_of values k)) (found : IsFound pool (list_at lists.by_aircraft k) weights a (value_of values k +ℤ d) old new) where
    with_chosen : IsLeastBelow (length pool.entries) (λ i. has pool a i && is_of pool k i) (λ i. weight_at weights i +ℤ d) new.with
    with_chosen =
        subst (λ (o : Option ℤ). IsLeastBelow (length pool.entries) (λ i. has pool a i && is_of pool k i) (λ i. weight_at weights i +ℤ d) o) (sym found.with)
        (to_numbers (length pool.entries) (list_at lists.by_activity a) (has pool a) (is_of pool k) (λ i. weight_at weights i +ℤ d) old.with (with_members table book pool lists duals weights values a weighed activity) (with_places table book pool lists duals weights values a weighed activity) least)

    -- a route of the value's weight does not have the activity, where all that have it are heavier
    lacks : (o : Option ℤ) (i : ℕ) → IsLeastBelow (length pool.entries) (λ i. has pool a i && is_of pool k i) (λ i. weight_at weights i +ℤ d) o
        → IsAbove (value_of values k +ℤ d) o → i < length pool.entries → is_of pool k i ≡ true → weight_at weights i ≡ value_of values k → has pool a i ≡ false
    lacks None i none above lt pass is = elim (true_or_false (has pool a i)) [
      | inl it ↦ absurd (both_ways (has pool a i && is_of pool k i) (none i lt) (and_from (has pool a i) (is_of pool k i) it pass))
      | inr lacking ↦ lacking
    ]
    lacks (Some w) i least above lt pass is = elim (true_or_false (has pool a i)) [
      | inl it ↦ (let low = least.0 i lt (and_from (has pool a i) (is_of pool k i) it pass) in absurd (omega (arith, ints, low, above, is)))
      | inr lacking ↦ lacking
    ]

    kept : IsAbove (value_of values k +ℤ d) new.with
        → IsLeastBelow (length pool.entries) (λ i. is_of pool k i && not (has pool a i)) (weight_at weights) (Some (value_of values k))
    kept above = (
      λ i lt both. (value_least table book pool lists duals weights values k weighed of_book is_least).0 i lt (and_parts (is_of pool k i) (not (has pool a i)) both).0,
      (let (i, lt, pass, is) = (value_least table book pool lists duals weights values k weighed of_book is_least).1 in
          (i, lt, and_from (is_of pool k i) (not (has pool a i)) pass (ap not (lacks new.with i with_chosen above lt pass is)), is)),
    )

    pub chosen : IsChoiceOf pool weights a d k new
    chosen = record {
      with = with_chosen;
      without = elim found.without [
        | inl stays ↦ subst (λ (o : Option ℤ). IsLeastBelow (length pool.entries) (λ i. is_of pool k i && not (has pool a i)) (weight_at weights) o)
            (sym (stays.0 ∙ known)) (kept stays.1)
        | inr looked ↦ to_numbers (length pool.entries) (list_at lists.by_aircraft k) (is_of pool k) (λ i. not (has pool a i)) (weight_at weights) new.without (own_members pool (activities book) (aircraft book) lists k weighed.lists_of of_book) (own_places pool (activities book) (aircraft book) lists k weighed.lists_of of_book) looked
      ];
    }

-- the least over one list of numbers is that over an equal one
pub least_in_list : (pool : PoolSeen) (weights : List ℤ) (numbers others : List ℕ) (d : ℤ) (k : ℕ) (with : Option ℤ) → numbers ≡ others
    → IsLeastBelow (length numbers) (λ p. is_of pool k (slice_index_or numbers p 0)) (λ p. weight_at weights (slice_index_or numbers p 0) +ℤ d) with
    → IsLeastBelow (length others) (λ p. is_of pool k (slice_index_or others p 0)) (λ p. weight_at weights (slice_index_or others p 0) +ℤ d) with
least_in_list pool weights numbers others d k with same least =
    subst (λ (xs : List ℕ). IsLeastBelow (length xs) (λ p. is_of pool k (slice_index_or xs p 0)) (λ p. weight_at weights (slice_index_or xs p 0) +ℤ d) with) same least

-- where weights and the dual are small, so is the choice
pub choice_small : (pool : PoolSeen) (weights : List ℤ) (a : ℕ) (d : ℤ) (k : ℕ) (choice : Choice) → length weights ≡ length pool.entries → All IsSmall weights → IsSmall d
    → IsChoiceOf pool weights a d k choice → IsSmallChoice choice
choice_small pool weights a d k choice each small dual_small is = record {
  with = small_least (length pool.entries) (λ i. has pool a i && is_of pool k i) (λ i. weight_at weights i +ℤ d) (2 ^ 62) choice.with
      (λ i lt. let here = small i (pos 0) (subst (λ (n : ℕ). i < n) (sym each) lt) in
      record { least = omega (arith, ints, here, dual_small); most = omega (arith, ints, here, dual_small) }) is.with;
  without = small_least (length pool.entries) (λ i. is_of pool k i && not (has pool a i)) (weight_at weights) (2 ^ 61) choice.without
      (λ i lt. small i (pos 0) (subst (λ (n : ℕ). i < n) (sym each) lt)) is.without;
}

pub with_small : (pool : PoolSeen) (weights : List ℤ) (numbers : List ℕ) (d : ℤ) (k : ℕ) (with : Option ℤ) → length weights ≡ length pool.entries → All IsSmall weights → IsSmall d
    → All (λ i. i < length pool.entries) numbers
    → IsLeastBelow (length numbers) (λ p. is_of pool k (slice_index_or numbers p 0)) (λ p. weight_at weights (slice_index_or numbers p 0) +ℤ d) with → IsSmallWeight (2 ^ 62) with
with_small pool weights numbers d k with each small dual_small of_pool is =
    small_least (length numbers) (λ p. is_of pool k (slice_index_or numbers p 0)) (λ p. weight_at weights (slice_index_or numbers p 0) +ℤ d) (2 ^ 62) with
    (λ p lt. let here = small (slice_index_or numbers p 0) (pos 0) (subst (λ (n : ℕ). slice_index_or numbers p 0 < n) (sym each) (of_pool p 0 lt)) in
    record { least = omega (arith, ints, here, dual_small); most = omega (arith, ints, here, dual_small) }) is
