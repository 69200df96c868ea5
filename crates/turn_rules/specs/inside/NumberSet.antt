-- Sets of numbers below 32, a bit for each.
use Rattle.std.specs.Prelude.{ℕ, Bool, nat_eq}
use Rattle.std.specs.Int.{bit_at}
use Rattle.turn_rules.specs.declared.number_set.NumberSet.{NumberSet}

-- the set has the number
unfoldable pub has : NumberSet → ℕ → Bool
has set i = nat_eq (bit_at set.bits i) 1
