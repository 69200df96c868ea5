-- The choices that aircraft have of one activity: what each takes at a dual of it, and which dual is best.
-- For src/switching.rt, src/moving.rt and others.
use Rattle.std.specs.Prelude.{◌≡◌, ℕ, ℤ, pos, ◌+ℤ◌, ◌-ℤ◌, ◌≤ℤ◌, ◌<ℤ◌, ◌<◌, ◌^◌, ◌⊎◌, ⊤, List, Option, Some, None, map, length, slice_index_or}
use Rattle.std.specs.Int.{int_min, int_max}
use Rattle.tail_book.specs.TableSeen.{CostTableSeen}
use Rattle.tail_book.specs.CostTable.{IsInBox, cost_unit}
use Rattle.tail_book.specs.Ranges.{IsWithin}
use Rattle.tail_book.specs.Sums.{total}
use Rattle.restricted_master.specs.declared.choice.Choice.{Choice}

-- the dual from which on an aircraft takes the activity: none where it has no route with it, the box's low end where it
-- has no other, and otherwise what the route with it costs more, with the dual left out
abbrev pub price_of : ℤ → Option ℤ → Option ℤ → Option ℤ
price_of low None without = None
price_of low (Some with) None = Some low
price_of low (Some with) (Some without) = Some (int_max low (with -ℤ without))

-- the least weight of the aircraft at a dual of the activity
abbrev pub taken_at : ℤ → Option ℤ → Option ℤ → ℤ
taken_at dual None None = pos 0
taken_at dual None (Some without) = without
taken_at dual (Some with) None = with -ℤ dual
taken_at dual (Some with) (Some without) = int_min without (with -ℤ dual)

-- a weight with all its duals, and a dual: within 2^61 of 0
abbrev pub IsSmall : ℤ → Type 0
IsSmall weight = IsWithin (pos 0 -ℤ pos (2 ^ 61)) (pos (2 ^ 61)) weight

-- the weight, where there is one, lies within so much of 0
abbrev pub IsSmallWeight : ℕ → Option ℤ → Type 0
IsSmallWeight most None = ⊤
IsSmallWeight most (Some weight) = IsWithin (pos 0 -ℤ pos most) (pos most) weight

-- a route weighs at most 2^61 with all duals, and at most 2^62 without one of them
pub record IsSmallChoice (choice : Choice) : Type 0 where
  pub with : IsSmallWeight (2 ^ 62) choice.with
  pub without : IsSmallWeight (2 ^ 61) choice.without

-- below this dual the aircraft does not take the activity; from it on it does
abbrev pub KeepsOffBelow : ℤ → Option ℤ → Type 0
KeepsOffBelow dual None = ⊤
KeepsOffBelow dual (Some price) = dual ≤ℤ price

abbrev pub TakesFrom : ℤ → Option ℤ → Type 0
TakesFrom dual None = ⊥
TakesFrom dual (Some price) = price ≤ℤ dual

-- the choice of an aircraft, that of no route past the end
abbrev pub choice_at : List Choice → ℕ → Choice
choice_at choices k = slice_index_or choices k (record { with = None; without = None })

abbrev pub price_at : ℤ → List Choice → ℕ → Option ℤ
price_at low choices k = price_of low (choice_at choices k).with (choice_at choices k).without

-- the part of the Lagrangian sum that the dual can move: itself, and what each aircraft takes
abbrev pub all_taken : ℤ → List Choice → ℤ
all_taken dual choices = total (map (λ (c : Choice). taken_at dual c.with c.without) choices)

abbrev pub part_at : ℤ → List Choice → ℤ
part_at dual choices = dual +ℤ all_taken dual choices

-- of the first so many aircraft one takes the activity from this dual on, unless the dual is the box's high end
abbrev pub IsTaken : ℤ → ℤ → List Choice → ℕ → ℤ → Type 0
IsTaken low high choices count dual = (dual ≡ high) ⊎ ((k : ℕ) × (k < count) × TakesFrom dual (price_at low choices k))

-- and of any two of them one keeps off below it
abbrev pub IsTakenOnce : ℤ → List Choice → ℕ → ℤ → Type 0
IsTakenOnce low choices count dual =
    (j k : ℕ) → j < k → k < count → KeepsOffBelow dual (price_at low choices j) ⊎ KeepsOffBelow dual (price_at low choices k)

-- no dual of the box makes that part larger
abbrev pub IsBest : ℤ → ℤ → List Choice → ℤ → Type 0
IsBest low high choices dual = (other : ℤ) → IsWithin low high other → part_at other choices ≤ℤ part_at dual choices

-- a better dual of the box, which gains at least a cost unit over this one, or none where none does
abbrev pub IsBetter : CostTableSeen → List Choice → ℤ → Option ℤ → Type 0
IsBetter table choices dual None =
    (other : ℤ) → IsInBox table other → part_at other choices <ℤ (part_at dual choices +ℤ pos cost_unit)
IsBetter table choices dual (Some best) = IsInBox table best × (part_at dual choices +ℤ pos cost_unit) ≤ℤ part_at best choices

-- the law of switching prices: a dual from which on one aircraft takes the activity, and below which at most one does, is best
abbrev pub SwitchingPricesAreBest : Type 0
SwitchingPricesAreBest = (low high : ℤ) (choices : List Choice) (dual : ℤ) → IsWithin low high dual
    → IsTaken low high choices (length choices) dual → IsTakenOnce low choices (length choices) dual → IsBest low high choices dual
