-- How the value of digits grows from one to the next: a digit more takes it ten times and adds itself.
--
-- So more digits make no smaller number, and a reader may stop at the first digit that passes the greatest number
-- allowed: whatever follows, the text is refused.
use Rattle.std.proofs.Common.{◌≡◌, ℕ, ◌+◌, ◌*◌, ◌-◌, ◌≤◌, ◌<◌, true, false, List, [], ◌∷◌, length, drop, slice_index, nat_le, Err, refl, arith}
use Rattle.std.proofs.lemmas.Bool.Decides.{nat_tests}
use Rattle.std.proofs.lemmas.List.{drop_more}
use Rattle.tail_text.specs.Bad.{bad}
use Rattle.tail_text.specs.Number.{is_numeral, number_of, value_after}

-- more digits make no smaller number
pub value_after-grows : (n : ℕ) (ds : List ℕ) → n ≤ value_after n ds
value_after-grows n [] = omega arith
value_after-grows n (d ∷ ds) = omega (arith, value_after-grows (n * 10 + (d - 48)) ds)

-- one digit more
pub value_after-drop : (n i : ℕ) (ds : List ℕ) → i < length ds → value_after n (drop i ds) ≡ value_after (n * 10 + (slice_index ds i - 48)) (drop (i + 1) ds)
value_after-drop n i ds h = rw (drop_more ds i 0 h) refl

-- a number past the most is refused
pub number_of-past : (max : ℕ) (ds : List ℕ) → is_numeral ds ≡ true → max < value_after 0 ds → number_of max ds ≡ Err bad
number_of-past max ds numeral past =
    let test : nat_le (value_after 0 ds) max ≡ false = grind (arith, nat_tests) in
    rw (numeral, test) refl
