-- The sum over a pool as a function of one rise. Each route has a weight, and a number of times that it pays what rises: so at each rise
-- it is a line, and an aircraft takes the least of its lines. For src/lines.rt and src/best_rise.rt.
use Rattle.std.specs.Prelude.{◌≡◌, ℕ, ◌<◌, ◌≤◌, ◌^◌, ℤ, pos, ◌+ℤ◌, ◌-ℤ◌, ◌*ℤ◌, ◌≤ℤ◌, ◌<ℤ◌, List, All, Option, Some, None, length, slice_index_or}
use Rattle.std.specs.Option.{unwrap_or}
use Rattle.tail_book.specs.CostTable.{cost_unit}
use Rattle.tail_book.specs.Ranges.{IsWithin}
use Rattle.tail_book.specs.Sums.{sum_below}
use Rattle.restricted_master.specs.Seen.{PoolSeen}
use Rattle.restricted_master.specs.Lists.{is_of}
use Rattle.restricted_master.specs.inside.Least.{weight_at}
use Rattle.fee_master.specs.PoolSum.{least_below}
use Rattle.fee_master.specs.inside.Uses.{times_at}
use Rattle.fee_master.specs.declared.lines.Touch.{Touch}
use Rattle.fee_master.specs.declared.lines.Tangent.{Tangent}
use Rattle.fee_master.specs.declared.best_rise.Range.{Range}

-- what the route of a number weighs at a rise
abbrev pub line_at : List ℤ → List ℕ → ℤ → ℕ → ℤ
line_at weights times rise i = weight_at weights i +ℤ (pos (times_at times i) *ℤ rise)

-- the least of aircraft k's lines at a rise
abbrev pub line_value : PoolSeen → List ℤ → List ℕ → ℤ → ℕ → ℤ
line_value pool weights times rise k = unwrap_or (least_below (is_of pool k) (line_at weights times rise) (length pool.entries)) (pos 0)

-- and that of the first m aircraft together, less the rise as often as it may be paid at most: the part of the sum that a rise moves
abbrev pub part_at : PoolSeen → ℕ → List ℤ → List ℕ → ℕ → ℤ → ℤ
part_at pool m weights times most rise = sum_below m (line_value pool weights times rise) -ℤ (pos most *ℤ rise)

-- a weight within 2^62 of 0, a rise within 2^45 of it, and a number of times of at most 4,000: so nothing leaves 64 bits
abbrev pub IsFairWeight : ℤ → Type 0
IsFairWeight weight = IsWithin (pos 0 -ℤ pos (2 ^ 62)) (pos (2 ^ 62)) weight

abbrev pub IsFairRise : ℤ → Type 0
IsFairRise rise = IsWithin (pos 0 -ℤ pos (2 ^ 45)) (pos (2 ^ 45)) rise

pub record AreFairLines (weights : List ℤ) (times : List ℕ) : Type 0 where
  pub low : All IsFairWeight weights
  pub few : All (λ n. n ≤ 4000) times

-- the lowest of the lines of the first so many numbers of a list: none is lower, and it is one of them
pub record IsLowest (numbers : List ℕ) (count : ℕ) (weights : List ℤ) (times : List ℕ) (rise : ℤ) (touch : Touch) : Type 0 where
  pub least : (p : ℕ) → p < count → touch.value ≤ℤ line_at weights times rise (slice_index_or numbers p 0)
  pub attained : (p : ℕ) × (p < count) × (line_at weights times rise (slice_index_or numbers p 0) ≡ touch.value)
      × (times_at times (slice_index_or numbers p 0) ≡ touch.times)

-- of the first m aircraft: the value of each at the rise, all together, and a line that is nowhere below what they come to
pub record IsTouching (pool : PoolSeen) (m : ℕ) (weights : List ℤ) (times : List ℕ) (rise sum : ℤ) (count : ℕ) : Type 0 where
  pub on : sum ≡ sum_below m (line_value pool weights times rise)
  pub above : (other : ℤ) → sum_below m (line_value pool weights times other) ≤ℤ (sum +ℤ (pos count *ℤ (other -ℤ rise)))

-- the part at the rise, and a line that is nowhere below it
pub record IsTangent (pool : PoolSeen) (m : ℕ) (weights : List ℤ) (times : List ℕ) (most : ℕ) (rise : ℤ) (tangent : Tangent) : Type 0 where
  pub on : tangent.part ≡ part_at pool m weights times most rise
  pub above : (other : ℤ) → part_at pool m weights times most other
      ≤ℤ ((tangent.part +ℤ (pos tangent.count *ℤ (other -ℤ rise))) -ℤ (pos most *ℤ (other -ℤ rise)))

-- what is known of rises from low to high: no rise outside of those that are left is better than the best so far
pub record IsSearched (pool : PoolSeen) (m : ℕ) (weights : List ℤ) (times : List ℕ) (most : ℕ) (low high : ℤ) (range : Range) : Type 0 where
  pub from : low ≤ℤ range.from
  pub to : range.to ≤ℤ high
  pub within : IsWithin low high range.best
  pub part : range.part ≡ part_at pool m weights times most range.best
  pub below : (other : ℤ) → low ≤ℤ other → other <ℤ range.from → part_at pool m weights times most other ≤ℤ range.part
  pub beyond : (other : ℤ) → other ≤ℤ high → range.to <ℤ other → part_at pool m weights times most other ≤ℤ range.part

-- how the rises that are left become fewer behind a tangent, and which rise is the best then
pub record IsNarrowed (most : ℕ) (old : Range) (rise : ℤ) (tangent : Tangent) (new : Range) : Type 0 where
  pub from_up : most ≤ tangent.count → new.from ≡ (rise +ℤ pos 1)
  pub from_same : tangent.count < most → new.from ≡ old.from
  pub to_down : tangent.count ≤ most → new.to ≡ (rise -ℤ pos 1)
  pub to_same : most < tangent.count → new.to ≡ old.to
  pub better : old.part <ℤ tangent.part → (new.best ≡ rise) × (new.part ≡ tangent.part)
  pub kept : tangent.part ≤ℤ old.part → (new.best ≡ old.best) × (new.part ≡ old.part)

-- a rise that gains a cost unit, or none where none does
abbrev pub IsGain : PoolSeen → ℕ → List ℤ → List ℕ → ℕ → ℤ → ℤ → Option ℤ → Type 0
IsGain pool m weights times most low high None = (other : ℤ) → IsWithin low high other
    → part_at pool m weights times most other <ℤ (part_at pool m weights times most (pos 0) +ℤ pos cost_unit)
IsGain pool m weights times most low high (Some rise) =
    IsWithin low high rise × (part_at pool m weights times most (pos 0) +ℤ pos cost_unit) ≤ℤ part_at pool m weights times most rise
