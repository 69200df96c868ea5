-- Leaps: the room that they take, where they may go, and what the sum gains by them. For src/leaping.rt and src/pool_duals.rt.
use Rattle.std.specs.Prelude.{◌≡◌, ℕ, ℤ, ◌<ℤ◌, List, Bool, true, false, Some, length, slice_index_or}
use Rattle.tail_book.specs.Seen.{BookSeen}
use Rattle.tail_book.specs.TableSeen.{CostTableSeen}
use Rattle.tail_book.specs.Lookup.{activities, aircraft}
use Rattle.branch_marks.specs.Pool.{Pooled, sum_in}
use Rattle.branch_marks.specs.Settled.{AreDuals}
use Rattle.restricted_master.specs.Seen.{PoolSeen}
use Rattle.restricted_master.specs.inside.Least.{weight_at, AreValues, AreWeights, IsLeastBelow}
use Rattle.restricted_master.specs.declared.leaping.Leap.{Leap}

-- a dual for each activity before a sweep, before many sweeps and after a leap, a weight for each route, and a value for each aircraft
pub record IsLeapRoom (book : BookSeen) (pool : PoolSeen) (leap : Leap) : Type 0 where
  pub before : length leap.before.items ≡ activities book
  pub earlier : length leap.earlier.items ≡ activities book
  pub duals : length leap.duals.items ≡ activities book
  pub weights : length leap.weights.items ≡ length pool.entries
  pub values : length leap.values.items ≡ aircraft book

-- the value is the least weight of the routes among these numbers
pub record IsLeastOf (numbers : List ℕ) (weights : List ℤ) (value : ℤ) : Type 0 where
  pub least : IsLeastBelow (length numbers) (λ _. true) (λ p. weight_at weights (slice_index_or numbers p 0)) (Some value)

-- its duals lie in the box, and all is weighed there
pub record IsThere (table : CostTableSeen) (book : BookSeen) (pool : PoolSeen) (leap : Leap) : Type 0 where
  pub duals : AreDuals table book leap.duals.items
  pub weights : AreWeights table book pool leap.duals.items leap.weights.items
  pub values : AreValues table book pool leap.duals.items leap.values.items

-- one leap or many: the sum rises, or no dual moves
abbrev pub Leaps : CostTableSeen → BookSeen → List Pooled → List ℤ → List ℤ → Bool → Type 0
Leaps table book pool old new true = sum_in table book old pool <ℤ sum_in table book new pool
Leaps table book pool old new false = new ≡ old
