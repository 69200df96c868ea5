-- The definitions of the readers, at the texts that a reader tries first.
--
-- The rows show the greatest number that is allowed and one more, a zero in front, the last minute of a day, 29
-- February of 2000 and of 2100, and the first and the last moment.
use Rattle.std.proofs.Common.{◌≡◌, pos, Ok, Err, refl}
use Rattle.std.specs.Prelude.{codes}
use Rattle.jiff_core.specs.Calendar.{days_from_civil, day_count, days_of_years, days_of_months}
use Rattle.tail_text.specs.Bad.{bad}
use Rattle.tail_text.specs.Clock.{clock_of}
use Rattle.tail_text.specs.NameText.{name_of}
use Rattle.tail_text.specs.Number.{number_of}
use Rattle.tail_text.specs.Stamp.{stamp_of}

-- the largest number that is allowed is read, one more is not, and a zero stands alone
numbers : (number_of 9 (codes "9") ≡ Ok 9) × (number_of 9 (codes "10") ≡ Err bad) × (number_of 9 (codes "0") ≡ Ok 0) × (number_of 9 (codes "00") ≡ Err bad) × (number_of 9 (codes "") ≡ Err bad)
numbers = (refl, refl, refl, refl, refl)

-- a name begins with a letter or a digit
names : (name_of (codes "7-b_C") ≡ Ok (codes "7-b_C")) × (name_of (codes "-A") ≡ Err bad)
names = (refl, refl)

-- a day ends at 23:59
clocks : (clock_of (codes "23:59") ≡ Ok (pos 1439)) × (clock_of (codes "24:00") ≡ Err bad)
clocks = (refl, refl)

-- 2000 has a 29 February and 2100 has none
stamps : (stamp_of (codes "1970-01-01T00:00") ≡ Ok (pos 0)) × (stamp_of (codes "2000-02-29T00:00") ≡ Ok (pos 15_863_040))
    × (stamp_of (codes "2100-02-29T00:00") ≡ Err bad) × (stamp_of (codes "2199-12-31T23:59") ≡ Ok (pos 120_968_639))
unfolding days_from_civil day_count days_of_years days_of_months
stamps = (refl, refl, refl, refl)
