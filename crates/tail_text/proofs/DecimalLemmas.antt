-- A number that is written in digits is read as itself.
--
-- Writing a number of two digits or more is writing a tenth of it and then its last digit, and reading takes ten times
-- what was read and adds a digit: so one digit more keeps what is written and what is read equal.
use Rattle.std.proofs.Common.{◌≡◌, ◌∙◌, ℕ, zero, suc, ◌+◌, ◌*◌, ◌-◌, ◌/◌, ◌%◌, ◌^◌, ◌<◌, ◌≤◌, Bool, true, false, List, [], ◌∷◌, ◌++◌, Ok, length, refl, arith, nat_lt, nat_le, ◌==◌, ◌&&◌}
use Rattle.std.proofs.lemmas.Bool.Decides.{nat_tests}
use Rattle.std.proofs.lemmas.Fmt.{decimal_by_steps, decimal_digit, decimal_nonempty, first_decimal}
use Rattle.std.proofs.lemmas.List.Folds.{list_all-append}
use Rattle.std.specs.Char.{is_ascii_digit}
use Rattle.std.specs.Fmt.{decimal}
use Rattle.std.specs.List.{list_all}
use Rattle.tail_text.specs.Number.{has_leading_zero, is_numeral, number_of, value_after}

digit_is : (d : ℕ) → d < 10 → is_ascii_digit (48 + d) ≡ true
digit_is d lt = grind (arith, nat_tests)

-- one digit more
value_after-push : (n d : ℕ) (ds : List ℕ) → value_after n (ds ++ (48 + d) ∷ []) ≡ value_after n ds * 10 + d
value_after-push n d [] = omega arith
value_after-push n d (e ∷ ds) = value_after-push (n * 10 + (e - 48)) d ds

-- digits that write a number
record Writes (n : ℕ) (ds : List ℕ) : Type 0 where
  digits : list_all is_ascii_digit ds ≡ true
  value : value_after 0 ds ≡ n

writes_digit : (n : ℕ) → n < 10 → Writes n ((48 + n) ∷ [])
writes_digit n lt = record { digits = rw (digit_is n lt) refl; value = omega arith }

writes_more : (n : ℕ) (ds : List ℕ) → 10 ≤ n → Writes (n / 10) ds → Writes n (ds ++ (48 + n % 10) ∷ [])
writes_more n ds big h =
    let small : n % 10 < 10 = omega arith in
    record {
      digits = rw (list_all-append is_ascii_digit ds ((48 + n % 10) ∷ []), h.digits, digit_is (n % 10) small) refl;
      value = value_after-push 0 (n % 10) ds ∙ omega (arith, h.value);
    }

writes : (n : ℕ) → n < 2 ^ 64 → Writes n (decimal n)
writes = decimal_by_steps Writes writes_digit writes_more

-- every byte is a digit
pub decimal-digits : (n : ℕ) → n < 2 ^ 64 → list_all is_ascii_digit (decimal n) ≡ true
decimal-digits n small = (writes n small).digits

no_zero : (d : ℕ) → 48 < d → (d == 48) ≡ false
no_zero d h = grind (arith, nat_tests)

and_false : (b c : Bool) → c ≡ false → (b && c) ≡ false
and_false true c e = e
and_false false c e = refl

-- no zero stands before others
decimal-first : (n : ℕ) → n < 2 ^ 64 → has_leading_zero (decimal n) ≡ false
decimal-first zero small = let e = decimal_digit 0 (omega arith) in rw e refl
decimal-first (suc n) small = and_false (nat_lt 1 (length (decimal (suc n)))) _ (no_zero _ (first_decimal (suc n) (omega arith) small))

not_empty : (n : ℕ) → 0 < n → (n == 0) ≡ false
not_empty n h = grind (arith, nat_tests)

decimal-numeral : (n : ℕ) → n < 2 ^ 64 → is_numeral (decimal n) ≡ true
decimal-numeral n small = rw (not_empty _ (decimal_nonempty n small), decimal-first n small, decimal-digits n small) refl

within : (n max : ℕ) → n ≤ max → nat_le n max ≡ true
within n max h = grind (arith, nat_tests)

-- a number that is written is read as itself, where it is at most the greatest that is allowed
pub number_of-decimal : (max n : ℕ) → n < 2 ^ 64 → n ≤ max → number_of max (decimal n) ≡ Ok n
number_of-decimal max n small fits = rw (decimal-numeral n small, (writes n small).value, within n max fits) refl
