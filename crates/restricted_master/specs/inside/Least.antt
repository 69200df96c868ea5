-- The least of what numbers have, and the least weights with and without an activity.
-- For src/aircraft_choices.rt, src/moving.rt and others.
use Rattle.std.specs.Prelude.{◌≡◌, ℕ, ℤ, pos, ◌+◌, ◌*◌, ◌^◌, ◌+ℤ◌, ◌≤ℤ◌, ◌<ℤ◌, ◌<◌, ◌⊎◌, ⊤, All, Bool, true, false, not, ◌&&◌, if◌then◌else◌, int_lt, nat_eq, List, Option, Some, None, length, slice_index_or}
use Rattle.std.specs.Int.{int_min}
use Rattle.tail_book.specs.Seen.{BookSeen}
use Rattle.tail_book.specs.TableSeen.{CostTableSeen}
use Rattle.tail_book.specs.CostTable.{IsCostTable, IsTableFor}
use Rattle.tail_book.specs.Lookup.{activities, aircraft}
use Rattle.branch_marks.specs.Weights.{weight}
use Rattle.branch_marks.specs.Bound.{value_of}
use Rattle.branch_marks.specs.Pool.{Pooled, least_in, least_with, sum_in}
use Rattle.branch_marks.specs.Settled.{AreDuals}
use Rattle.restricted_master.specs.Seen.{PoolSeen, RouteListsSeen}
use Rattle.restricted_master.specs.Pool.{entry_at, IsPoolFor}
use Rattle.restricted_master.specs.Lists.{is_of, has, list_at, AreListsOf}
use Rattle.restricted_master.specs.inside.Choices.{choice_at, IsSmall}
use Rattle.restricted_master.specs.declared.choice.Choice.{Choice}

-- the least of what the numbers below n that pass a test have, none where none passes
abbrev pub IsLeastBelow : ℕ → (ℕ → Bool) → (ℕ → ℤ) → Option ℤ → Type 0
IsLeastBelow n test f None = (i : ℕ) → i < n → test i ≡ false
IsLeastBelow n test f (Some least) =
    ((i : ℕ) → i < n → test i ≡ true → least ≤ℤ f i) × ((i : ℕ) × (i < n) × (test i ≡ true) × (f i ≡ least))

-- the lighter one, where there was one
abbrev pub lighter : Option ℤ → ℤ → Option ℤ
lighter None other = Some other
lighter (Some least) other = Some (int_min least other)

-- the weight of a number, 0 past the end, and that of an entry
abbrev pub weight_at : List ℤ → ℕ → ℤ
weight_at weights i = slice_index_or weights i (pos 0)

abbrev pub entry_weight : CostTableSeen → BookSeen → List ℤ → Pooled → ℤ
entry_weight table book duals entry = weight table book entry.aircraft duals entry.route

-- the least weight of an aircraft's routes with one entry more, which counts where it is of that aircraft
abbrev pub least_with_entry : CostTableSeen → BookSeen → List ℤ → ℕ → Pooled → Option ℤ → Option ℤ
least_with_entry table book duals k entry least =
    if nat_eq k entry.aircraft then Some (least_with (entry_weight table book duals entry) least) else least

-- the least weight, with the dual, of aircraft k's routes among these numbers
abbrev pub IsLeastWith : PoolSeen → List ℕ → List ℤ → ℤ → ℕ → Option ℤ → Type 0
IsLeastWith pool numbers weights dual k least =
    IsLeastBelow (length numbers) (λ p. is_of pool k (slice_index_or numbers p 0)) (λ p. weight_at weights (slice_index_or numbers p 0) +ℤ dual) least

-- the least weight of the routes among these numbers that do not have activity a
abbrev pub IsLeastWithout : PoolSeen → List ℕ → List ℤ → ℕ → Option ℤ → Type 0
IsLeastWithout pool numbers weights a least =
    IsLeastBelow (length numbers) (λ p. not (has pool a (slice_index_or numbers p 0))) (λ p. weight_at weights (slice_index_or numbers p 0)) least

-- each route has its weight
pub record AreWeights (table : CostTableSeen) (book : BookSeen) (pool : PoolSeen) (duals weights : List ℤ) : Type 0 where
  pub each : length weights ≡ length pool.entries
  pub weighs : (i : ℕ) → i < length pool.entries → weight_at weights i ≡ entry_weight table book duals (entry_at pool i)

-- each aircraft has the least weight of its routes
pub record AreValues (table : CostTableSeen) (book : BookSeen) (pool : PoolSeen) (duals values : List ℤ) : Type 0 where
  pub each : length values ≡ aircraft book
  pub least : (k : ℕ) → k < aircraft book → least_in table book duals k pool.entries ≡ Some (value_of values k)

-- the choice of aircraft k: the least weight of its routes with the activity, its dual left out, and that of the others
pub record IsChoiceOf (pool : PoolSeen) (weights : List ℤ) (a : ℕ) (dual : ℤ) (k : ℕ) (choice : Choice) : Type 0 where
  pub with : IsLeastBelow (length pool.entries) (λ i. has pool a i && is_of pool k i) (λ i. weight_at weights i +ℤ dual) choice.with
  pub without : IsLeastBelow (length pool.entries) (λ i. is_of pool k i && not (has pool a i)) (weight_at weights) choice.without

-- what is kept while duals change: the pool is one for the book and the table, its lists, its weights and its values
pub record IsWeighed (table : CostTableSeen) (book : BookSeen) (pool : PoolSeen) (lists : RouteListsSeen) (duals weights values : List ℤ) : Type 0 where
  pub table_for : IsTableFor book table
  pub pool_for : IsPoolFor table book pool
  pub lists_of : AreListsOf pool (activities book) (aircraft book) lists
  pub duals_of : AreDuals table book duals
  pub weights_of : AreWeights table book pool duals weights
  pub values_of : AreValues table book pool duals values

-- whether a weight is lighter than the least so far
abbrev pub is_lighter : ℤ → Option ℤ → Bool
is_lighter weight None = true
is_lighter weight (Some least) = int_lt weight least

-- the aircraft's least weight with the activity is above this, if there is one
abbrev pub IsAbove : ℤ → Option ℤ → Type 0
IsAbove weight None = ⊤
IsAbove weight (Some with) = weight <ℤ with

-- what is found of the weight without: where the old one stays, the aircraft's least weight is below all with the activity
pub record IsFound (pool : PoolSeen) (numbers : List ℕ) (weights : List ℤ) (a : ℕ) (value : ℤ) (old new : Choice) : Type 0 where
  pub with : new.with ≡ old.with
  pub without : ((new.without ≡ old.without) × IsAbove value new.with)
      ⊎ IsLeastWithout pool numbers weights a new.without

-- and so for each aircraft, among its own routes
abbrev pub AreFound : PoolSeen → List (List ℕ) → List ℤ → List ℤ → ℕ → ℤ → List Choice → List Choice → Type 0
AreFound pool lists weights values a dual old new = (k : ℕ) → k < length new
    → IsFound pool (list_at lists k) weights a (value_of values k +ℤ dual) (choice_at old k) (choice_at new k)

-- with duals in the box all weights are small
abbrev pub WeightsAreSmall : Type 0
WeightsAreSmall = (table : CostTableSeen) (book : BookSeen) (pool : PoolSeen) (lists : RouteListsSeen) (duals weights values : List ℤ)
    → IsCostTable table → IsWeighed table book pool lists duals weights values → All IsSmall weights × All IsSmall values × All IsSmall duals

-- and so are the weights of routes that are not kept in a list yet
abbrev pub EntriesAreSmall : Type 0
EntriesAreSmall = (table : CostTableSeen) (book : BookSeen) (pool : PoolSeen) (duals : List ℤ) → IsCostTable table → IsTableFor book table
    → IsPoolFor table book pool → AreDuals table book duals → (i : ℕ) → i < length pool.entries → IsSmall (entry_weight table book duals (entry_at pool i))

-- the most that a Lagrangian sum over a pool comes to
abbrev pub greatest_sum : BookSeen → ℕ
greatest_sum book = (activities book + aircraft book) * 2 ^ 61

abbrev pub SumsAreBounded : Type 0
SumsAreBounded = (table : CostTableSeen) (book : BookSeen) (pool : PoolSeen) (lists : RouteListsSeen) (duals weights values : List ℤ)
    → IsCostTable table → IsWeighed table book pool lists duals weights values → sum_in table book duals pool.entries ≤ℤ pos (greatest_sum book)
