-- Which of two open places comes first.
use Rattle.std.specs.Prelude.{◌≡◌, ◌⊎◌, ◌<◌, ◌<ℤ◌, true, false}
use Rattle.best_first.specs.declared.rank.Rank.{Rank}

-- the place was opened by a node that was counted before, or it is the first branch of a node and the other the second
abbrev pub IsOlder : Rank → Rank → Type 0
IsOlder one other = (one.since < other.since) ⊎ ((one.since ≡ other.since) × (one.second ≡ false) × (other.second ≡ true))

-- the bound of the node that opened it is less, or the bounds are equal and it is older
abbrev pub IsBefore : Rank → Rank → Type 0
IsBefore one other = (one.bound <ℤ other.bound) ⊎ ((one.bound ≡ other.bound) × IsOlder one other)
