-- What records of a timetable say, computed by the definitions.
--
-- The rows show the longest span and a minute more, and that of two faults the one further left decides, before what is
-- wrong with the record as a whole.
use Rattle.std.proofs.Common.{◌≡◌, List, ℕ, pos, true, [], ◌∷◌, Ok, Err, None, refl}
use Rattle.std.specs.Prelude.{codes}
use Rattle.jiff_core.specs.Calendar.{days_from_civil, day_count, days_of_years, days_of_months}
use Rattle.timetable_reader.specs.Timetable.{activity_of}

-- a record with this kind, from ARN to an airport, from 07:30 on a day to another moment, and with these resets
abbrev record_with : List ℕ → List ℕ → List ℕ → List ℕ → List (List ℕ)
record_with kind to end resets = codes "F1" ∷ kind ∷ codes "ARN" ∷ to ∷ codes "2025-03-01T07:30" ∷ end ∷ [] ∷ [] ∷ [] ∷ resets ∷ []

-- a flight of two days, which is the most
flight : activity_of (record_with (codes "flight") (codes "OSL") (codes "2025-03-03T07:30") [])
    ≡ Ok (record {
      id = codes "F1";
      flight = true;
      from = codes "ARN";
      to = codes "OSL";
      start = pos 29_013_570;
      end = pos 29_016_450;
      types = [];
      tags = [];
      tail = None;
      resets = [];
    })
unfolding days_from_civil day_count days_of_years days_of_months
flight = refl

-- a minute more is too long, and so is no time at all
spans : (activity_of (record_with (codes "flight") (codes "OSL") (codes "2025-03-03T07:31") []) ≡ Err 7)
    × (activity_of (record_with (codes "flight") (codes "OSL") (codes "2025-03-01T07:30") []) ≡ Err 7)
unfolding days_from_civil day_count days_of_years days_of_months
spans = (refl, refl)

-- the kind is looked at before what follows it, and the record as a whole comes last
order : (activity_of (record_with (codes "train") (codes "OSL!") (codes "") []) ≡ Err 8)
    × (activity_of (record_with (codes "ground") (codes "OSL") (codes "2025-03-01T08:25") (codes "A B!")) ≡ Err 5)
    × (activity_of (record_with (codes "ground") (codes "OSL") (codes "2025-03-01T08:25") []) ≡ Err 16)
    × (activity_of (record_with (codes "flight") (codes "OSL") (codes "2025-03-01T08:25") (codes "A")) ≡ Err 16)
unfolding days_from_civil day_count days_of_years days_of_months
order = (refl, refl, refl, refl)
