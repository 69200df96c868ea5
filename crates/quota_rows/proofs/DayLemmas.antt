-- Days as a table of quotas writes them. What is a moment with `T00:00` behind it has ten bytes; and the day of a moment of a
-- book is no later than that of the last one.
use Rattle.std.specs.Prelude.{codes}
use Rattle.std.proofs.Common.{◌≡◌, ◌≢◌, ◌+◌, ℕ, ℤ, pos, negsuc, false, List, ◌++◌, Err, length, length-append, refl, arith, ◌==◌}
use Rattle.std.proofs.lemmas.Bool.Decides.{nat_tests}
use Rattle.std.proofs.lemmas.Int.{ints}
use Rattle.tail_book.specs.Ranges.{IsWithin}
use Rattle.tail_book.specs.declared.limits.TheConstants.{LAST_MOMENT}
use Rattle.tail_book.specs.inside.Sound.{IsMoment}
use Rattle.tail_text.specs.declared.codes.TheConstants.{STAMP}
use Rattle.quota_rows.specs.Belongs.{day_of}
use Rattle.quota_rows.specs.QuotaTable.{day_in}

other_length : (n : ℕ) → n ≢ 16 → (n == 16) ≡ false
other_length n e = grind (arith, nat_tests)

-- a field that has not ten bytes writes no day
pub other_lengths_refused : (field : List ℕ) → length field ≢ 10 → day_in field ≡ Err STAMP
other_lengths_refused field other =
    let longer : length (field ++ codes "T00:00") ≡ length field + 6 = length-append field (codes "T00:00") in
    let not_16 : (length (field ++ codes "T00:00") == 16) ≡ false =
    other_length (length (field ++ codes "T00:00")) (λ e. other (omega (arith, longer, e))) in
    rw not_16 refl

-- the day of a moment of a book
pub days_are_few : (moment : ℤ) → IsMoment moment → IsWithin (pos 0) (day_of LAST_MOMENT) (day_of moment)
days_are_few (pos n) within = record { least = omega (arith, ints); most = omega (arith, ints, within.most) }
days_are_few (negsuc n) within = absurd (omega (arith, ints, within.least))
