-- A number has one spelling: what is read as a number is what is written of it.
--
-- The tests of a numeral say that std's digits with no zero in front stand there, and those are what is written of
-- their value. A minus is no digit, so a value below 0 has one spelling too.
use Rattle.std.proofs.Common.{◌≡◌, ◌∙◌, ◌≤◌, ◌<◌, ◌^◌, ℕ, zero, suc, Bool, true, false, List, Some, Result, Ok, Err, length, get_or, nat_le, nat_lt, ◌==◌, ◌&&◌, not, refl, sym, ap, arith}
use Rattle.std.proofs.lemmas.Bool.{and_parts, leb-true}
use Rattle.std.proofs.lemmas.Bool.Decides.{nat_tests}
use Rattle.std.proofs.lemmas.Fmt.{decimal-digits_value}
use Rattle.std.proofs.lemmas.Str.Parse.{FoldsDigits, IsDigitsTest, IsNumeralModel, numerals_by_fold}
use Rattle.std.specs.Char.{is_ascii_digit}
use Rattle.std.specs.Fmt.{decimal}
use Rattle.std.specs.List.{list_all}
use Rattle.std.specs.Prelude.{if◌then◌else◌}
use Rattle.std.specs.Result.{result_ok}
use Rattle.tail_text.specs.declared.bad.Bad.{Bad}
use Rattle.tail_text.specs.Bad.{bad}
use Rattle.tail_text.specs.Number.{has_leading_zero, is_numeral, number_of, value_after}

-- texts of digits
abbrev are_digits : List ℕ → Type 0
are_digits ds = list_all is_ascii_digit ds ≡ true

tells : IsDigitsTest are_digits
tells = record {
  empty = refl;
  parts = λ c cs e. let k = and_parts (is_ascii_digit c) (list_all is_ascii_digit cs) e in let m = and_parts (nat_le 48 c) (nat_le c 57) k.0 in ((leb-true 48 c m.0, leb-true c 57 m.1), k.1);
  more = λ c cs k e. let low : nat_le 48 c ≡ true = grind (arith, nat_tests, k.0) in let high : nat_le c 57 ≡ true = grind (arith, nat_tests, k.1) in rw (low, high, e) refl;
}

folds : FoldsDigits value_after
folds = record { empty = λ n. refl; more = λ n c cs k. refl }

model : IsNumeralModel are_digits (value_after 0)
model = numerals_by_fold are_digits tells value_after folds

-- a numeral is what is written of its value
some_digits : (n : ℕ) → not (n == 0) ≡ true → 0 < n
some_digits zero e = absurd (cc e)
some_digits (suc n) e = omega arith

no_lead : (n d : ℕ) → not (nat_lt 1 n && (d == 48)) ≡ true → 0 < n → d ≡ 48 → n ≡ 1
no_lead n d e some is = grind (arith, nat_tests)

pub numeral_written : (ds : List ℕ) → is_numeral ds ≡ true → value_after 0 ds < 2 ^ 64 → ds ≡ decimal (value_after 0 ds)
numeral_written ds e small =
    let parts = and_parts (not (length ds == 0)) (not (has_leading_zero ds) && list_all is_ascii_digit ds) e in
    let rest = and_parts (not (has_leading_zero ds)) (list_all is_ascii_digit ds) parts.1 in
    let some = some_digits (length ds) parts.0 in
    sym (decimal-digits_value model ds rest.1 some (no_lead (length ds) (get_or ds 0 0) rest.0 some) small)

-- what a test that passed gives
given_if : (test : Bool) (v n : ℕ) → (if test then Ok v else Err bad) ≡ Ok n → (test ≡ true) × (v ≡ n)
given_if true v n e = (refl, cc e)
given_if false v n e = absurd (cc e)

pub number_written : (max n : ℕ) (ds : List ℕ) → max < 2 ^ 64 → number_of max ds ≡ Ok n → (ds ≡ decimal n) × (n ≤ max)
number_written max n ds room e =
    let given = given_if (is_numeral ds && nat_le (value_after 0 ds) max) (value_after 0 ds) n e in
    let parts = and_parts (is_numeral ds) (nat_le (value_after 0 ds) max) given.0 in
    let most = leb-true (value_after 0 ds) max parts.1 in
    (numeral_written ds parts.0 (omega (arith, most)) ∙ ap decimal given.1, omega (arith, most, given.1))

-- what a number of an answer is
pub ok_is : (r : Result ℕ Bad) (n : ℕ) → result_ok r ≡ Some n → r ≡ Ok n
ok_is (Ok m) n e = cc e
ok_is (Err why) n e = absurd (cc e)
