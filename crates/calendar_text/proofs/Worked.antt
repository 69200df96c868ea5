-- Moments spelled: the first and the last, a leap day, the last of February in a year of a century without one, and the ends of a year.
use Rattle.std.proofs.Common.{◌≡◌, pos, codes, refl}
use Rattle.calendar_text.specs.Moment.{moment_text, two_digits}

ends : (moment_text (pos 0) ≡ codes "1970-01-01T00:00") × (moment_text (pos 120_968_639) ≡ codes "2199-12-31T23:59")
unfolding moment_text two_digits
ends = (refl, refl)

leap_days : (moment_text (pos 15_863_040) ≡ codes "2000-02-29T00:00") × (moment_text (pos 15_864_479) ≡ codes "2000-02-29T23:59")
    × (moment_text (pos 15_864_480) ≡ codes "2000-03-01T00:00")
unfolding moment_text two_digits
leap_days = (refl, refl, refl)

century : (moment_text (pos 68_459_039) ≡ codes "2100-02-28T23:59") × (moment_text (pos 68_459_040) ≡ codes "2100-03-01T00:00")
unfolding moment_text two_digits
century = (refl, refl)

years : (moment_text (pos 28_401_119) ≡ codes "2023-12-31T23:59") × (moment_text (pos 28_401_120) ≡ codes "2024-01-01T00:00")
unfolding moment_text two_digits
years = (refl, refl)
