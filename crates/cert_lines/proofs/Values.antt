-- Each number of a line is read as it is written, and written as it is read. The numerals of `Numerals.antt` say so of
-- numbers without a sign, and what is left is their limits. The one hard case is a minus. Written digits begin with
-- none, so what begins with a minus was negative; and a minus before 0 is refused, so 0 has one spelling.
use Rattle.std.proofs.Common.{◌≡◌, ◌∙◌, ◌≤◌, ◌<◌, ◌^◌, ℕ, zero, suc, ℤ, pos, negsuc, true, false, List, [], ◌∷◌, Some, length, ◌==◌, refl, ap, arith}
use Rattle.std.proofs.lemmas.Bool.{eqb-true}
use Rattle.std.proofs.lemmas.Bool.Decides.{nat_tests}
use Rattle.std.proofs.lemmas.Fmt.{decimal_nonempty}
use Rattle.std.proofs.lemmas.Int.{ints}
use Rattle.std.specs.Char.{is_ascii_digit}
use Rattle.std.specs.Fmt.{decimal, signed_decimal}
use Rattle.std.specs.List.{list_all}
use Rattle.std.specs.Result.{result_ok}
use Rattle.tail_text.specs.Number.{number_of}
use Rattle.branch_marks.specs.Events.{IsLineNumber, IsLineValue, IsLineCounter}
use Rattle.cert_lines.specs.declared.cert_line.TheConstants.{VALUE_LIMIT}
use Rattle.cert_lines.specs.Grammar.{IsLineCost}
use Rattle.cert_lines.specs.Words.{small, large, amount, value, negated, below_zero}
use Rattle.cert_lines.proofs.Numerals.{number_written, ok_is}
use Rattle.tail_text.proofs.DecimalLemmas.{decimal-digits, number_of-decimal}
use Rattle.cert_lines.proofs.Steps.{through_map, through_then, through_either}

pub small_written : (word : List ℕ) (n : ℕ) → small word ≡ Some n → (word ≡ decimal n) × IsLineNumber n
small_written word n e =
    let told = number_written 4_294_967_295 n word (omega arith) (ok_is _ n e) in
    (told.0, omega (arith, told.1))

pub small_read : (n : ℕ) → IsLineNumber n → small (decimal n) ≡ Some n
small_read n fits = rw (number_of-decimal 4_294_967_295 n (omega (arith, fits)) (omega (arith, fits))) refl

pub large_written : (word : List ℕ) (n : ℕ) → large word ≡ Some n → (word ≡ decimal n) × IsLineCost n
large_written word n e =
    let told = number_written 18_446_744_073_709_551_615 n word (omega arith) (ok_is _ n e) in
    (told.0, omega (arith, told.1))

pub large_read : (n : ℕ) → IsLineCost n → large (decimal n) ≡ Some n
large_read n fits = rw (number_of-decimal 18_446_744_073_709_551_615 n fits (omega (arith, fits))) refl

-- a word writes this counter, which a line spells
abbrev WritesCounter : List ℕ → ℤ → Type 0
WritesCounter word v = (word ≡ signed_decimal v) × IsLineCounter v

pub amount_written : (word : List ℕ) (v : ℤ) → amount word ≡ Some v → WritesCounter word v
amount_written word v e =
    through_map pos (WritesCounter word) (result_ok (number_of VALUE_LIMIT word)) v
    (λ n is. let told = number_written VALUE_LIMIT n word (omega arith) (ok_is _ n is) in (told.0, record { least = omega (arith, ints); most = omega (arith, ints, told.1) })) e

pub amount_read : (v : ℤ) → IsLineCounter v → amount (signed_decimal v) ≡ Some v
amount_read (pos n) fits =
    let most : n ≤ VALUE_LIMIT = omega (arith, ints, fits.most) in
    rw (number_of-decimal VALUE_LIMIT n (omega (arith, most)) most) refl
amount_read (negsuc n) fits = absurd (omega (arith, ints, fits.least))

-- a word writes this value, which a line spells
abbrev WritesValue : List ℕ → ℤ → Type 0
WritesValue word v = (word ≡ signed_decimal v) × IsLineValue v

negative_written : (digits : List ℕ) (n : ℕ) (v : ℤ) → (digits ≡ decimal n) × (n ≤ VALUE_LIMIT) → below_zero n ≡ Some v → WritesValue (45 ∷ digits) v
negative_written digits zero v told e = absurd (cc e)
negative_written digits (suc n) v told e =
    let is : negsuc n ≡ v = cc e in
    rw (← is) (ap (λ ds. 45 ∷ ds) told.0, record { least = omega (arith, ints, told.1); most = omega (arith, ints) })

pub value_written : (word : List ℕ) (v : ℤ) → value word ≡ Some v → WritesValue word v
value_written [] v e = absurd (cc e)
value_written (c ∷ cs) v e =
    through_either (c == 45) (WritesValue (c ∷ cs)) (negated cs) (amount (c ∷ cs)) v
    (λ minus given.
    let is : c ≡ 45 = eqb-true c 45 minus in
    rw is (through_then below_zero (WritesValue (45 ∷ cs)) (result_ok (number_of VALUE_LIMIT cs)) v (λ n told below. negative_written cs n v (number_written VALUE_LIMIT n cs (omega arith) (ok_is _ n told)) below) given))
    (λ plain given. let told = amount_written (c ∷ cs) v given in (told.0, record { least = omega (arith, ints, told.1.least); most = told.1.most })) e

-- the first byte of digits is no minus
no_minus : (ds : List ℕ) → 0 < length ds → list_all is_ascii_digit ds ≡ true → value ds ≡ amount ds
no_minus [] some e = absurd (omega (arith, some))
no_minus (c ∷ cs) some e =
    let digit = Rattle.std.proofs.lemmas.Bool.and_parts (is_ascii_digit c) (list_all is_ascii_digit cs) e in
    let plain : (c == 45) ≡ false = digit_plain c digit.0 in
    rw plain refl
  where
    digit_plain : (c : ℕ) → is_ascii_digit c ≡ true → (c == 45) ≡ false
    digit_plain c e = grind (arith, nat_tests)

pub value_read : (v : ℤ) → IsLineValue v → value (signed_decimal v) ≡ Some v
value_read (pos n) fits =
    let most : n ≤ VALUE_LIMIT = omega (arith, ints, fits.most) in
    let small : n < 2 ^ 64 = omega (arith, most) in
    no_minus (decimal n) (decimal_nonempty n small) (decimal-digits n small) ∙ amount_read (pos n) (record { least = omega (arith, ints); most = fits.most })
value_read (negsuc n) fits =
    let most : suc n ≤ VALUE_LIMIT = omega (arith, ints, fits.least) in
    rw (number_of-decimal VALUE_LIMIT (suc n) (omega (arith, most)) most) refl
