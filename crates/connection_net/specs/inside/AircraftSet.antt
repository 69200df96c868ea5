-- Sets of aircraft, a bit for each: the first 128 in the low word, the others in the high one.
use Rattle.std.specs.Prelude.{ℕ, ◌-◌, Bool, nat_eq, nat_lt, if◌then◌else◌}
use Rattle.std.specs.Int.{bit_at}
use Rattle.connection_net.specs.declared.aircraft_set.AircraftSet.{AircraftSet}

-- the set has the aircraft
unfoldable pub has : AircraftSet → ℕ → Bool
has set k = if nat_lt k 128 then nat_eq (bit_at set.low k) 1 else nat_eq (bit_at set.high (k - 128)) 1
