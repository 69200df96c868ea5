-- What an ascent learns: its best duals are those of the largest sum so far, and of equal sums the first.
use Rattle.std.specs.Prelude.{ℤ, List, Option, None, Some, if◌then◌else◌}
use Rattle.tail_book.specs.Numbers.{int_le}
use Rattle.dual_ascent.specs.Seen.{AscentSeen}

-- the best of what was known and of these duals with their sum: what was known, unless the new sum is larger
abbrev pub better_than : Option ℤ → AscentSeen → List ℤ → ℤ → AscentSeen
better_than None ascent duals sum = record { best = duals; sum = Some sum }
better_than (Some known) ascent duals sum = if int_le sum known then ascent else record { best = duals; sum = Some sum }

abbrev pub better : AscentSeen → List ℤ → ℤ → AscentSeen
better ascent duals sum = better_than ascent.sum ascent duals sum
