-- The moments of a trial are read back as they are written.
--
-- Two digits give back a number below 100, and the first five days, from 3 March 2025 on, are computed one by one. So
-- day, hour and minute come back, and together they are the minute.
use Rattle.std.proofs.Common.{◌≡◌, ◌∙◌, ◌+◌, ◌*◌, ◌-◌, ◌/◌, ◌%◌, ◌<◌, ℕ, zero, suc, pos, true, [], ◌∷◌, ◌++◌, Some, Ok, arith, refl, ap, nat_le}
use Rattle.std.specs.Prelude.{codes}
use Rattle.std.specs.Char.{is_ascii_digit}
use Rattle.std.proofs.lemmas.Bool.Decides.{nat_tests}
use Rattle.jiff_core.specs.Calendar.{days_from_civil, day_count, days_of_years, days_of_months}
use Rattle.tail_text.specs.Clock.{minutes_of}
use Rattle.tail_text.specs.Stamp.{day_number, moment_at, stamp_of}
use Rattle.seed_tables.specs.Rows.{digit, stamp_text}

is-digit : (n : ℕ) → is_ascii_digit (digit n) ≡ true
is-digit n = grind (arith, nat_tests)

-- a stamp of March 2025, by its digits
stamp-parts : (a b c d e f : ℕ) → is_ascii_digit a ≡ true → is_ascii_digit b ≡ true → is_ascii_digit c ≡ true → is_ascii_digit d ≡ true
    → is_ascii_digit e ≡ true → is_ascii_digit f ≡ true
    → stamp_of (codes "2025-03-" ++ a ∷ b ∷ 84 ∷ c ∷ d ∷ 58 ∷ e ∷ f ∷ [])
    ≡ moment_at (day_number 2025 3 ((a - 48) * 10 + (b - 48))) (minutes_of ((c - 48) * 10 + (d - 48)) ((e - 48) * 10 + (f - 48)))
stamp-parts a b c d e f at_a at_b at_c at_d at_e at_f = rw (at_a, at_b, at_c, at_d, at_e, at_f) refl

two-value : (n : ℕ) → n < 100 → (digit (n / 10) - 48) * 10 + (digit n - 48) ≡ n
two-value n small = omega arith

-- the first days
day : (q : ℕ) → q < 5 → day_number 2025 3 (3 + q) ≡ Some (pos (20150 + q))
unfolding days_from_civil day_count days_of_years days_of_months
day zero h = refl
day (suc zero) h = refl
day (suc (suc zero)) h = refl
day (suc (suc (suc zero))) h = refl
day (suc (suc (suc (suc zero)))) h = refl
day (suc (suc (suc (suc (suc q))))) h = absurd (omega arith)

minutes : (h m : ℕ) → h < 24 → m < 60 → minutes_of h m ≡ Some (h * 60 + m)
minutes h m hours short = rw (le h 23 (omega arith), le m 59 (omega arith)) refl
  where
    le : (a b : ℕ) → a < b + 1 → nat_le a b ≡ true
    le a b e = grind (arith, nat_tests)

whole : (t : ℕ) → (20150 + t / 1440) * 1440 + (t / 60 % 24 * 60 + t % 60) ≡ 29_016_000 + t
whole t = omega arith

-- a minute of the first five days
pub stamp-read : (t : ℕ) → t < 7200 → stamp_of (stamp_text t) ≡ Ok (pos (29_016_000 + t))
stamp-read t early =
    stamp-parts (digit ((3 + t / 1440) / 10)) (digit (3 + t / 1440)) (digit (t / 60 % 24 / 10)) (digit (t / 60 % 24)) (digit (t % 60 / 10)) (digit (t % 60))
    (is-digit ((3 + t / 1440) / 10)) (is-digit (3 + t / 1440)) (is-digit (t / 60 % 24 / 10)) (is-digit (t / 60 % 24)) (is-digit (t % 60 / 10)) (is-digit (t % 60))
    ∙ rw (
      two-value (3 + t / 1440) (omega arith),
      two-value (t / 60 % 24) (omega arith),
      two-value (t % 60) (omega arith),
      day (t / 1440) (omega arith),
      minutes (t / 60 % 24) (t % 60) (omega arith) (omega arith),
    )
    (ap (λ (n : ℕ). Ok (pos n)) (whole t))
