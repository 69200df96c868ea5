-- Sets as the bits of a word: with a number `k` added, bit `i` says what it said or that `i` is `k`, and of two sets
-- joined it says what either said.
--
-- A joined bit is the greater of two bits, which is four cases. An added number is a join with the word of that bit
-- alone.
use Rattle.std.proofs.Common.{◌≡◌, ◌∙◌, ℕ, zero, suc, ◌*◌, ◌%◌, ◌^◌, ◌<◌, arith, ap, Bool, true, false, refl, sym, w32, ⊎_elim}
use Rattle.std.specs.Prelude.{◌||◌, nat_eq, bit_or, max}
use Rattle.std.specs.Int.{bit_at}
use Rattle.std.proofs.lemmas.Bool.{eq-eqb, ne_eqb, cases_eq}
use Rattle.std.proofs.lemmas.Nat.Bits.{bit_at-zero, bit_at_ones, bit_at_or, bit_at-lt, bit_at_set_same, bit_at_set_other}

pub no_bit : (i : ℕ) → nat_eq (bit_at 0 i) 1 ≡ false
no_bit i = ap (λ b. nat_eq b 1) (bit_at-zero i)

pub every_bit : (i : ℕ) → i < 32 → nat_eq (bit_at 4294967295 i) 1 ≡ true
every_bit i lt = ap (λ b. nat_eq b 1) (bit_at_ones 32 i lt)

greater_bit : (a b : ℕ) → a < 2 → b < 2 → nat_eq (max a b) 1 ≡ (nat_eq a 1 || nat_eq b 1)
greater_bit zero zero la lb = refl
greater_bit zero (suc zero) la lb = refl
greater_bit (suc zero) zero la lb = refl
greater_bit (suc zero) (suc zero) la lb = refl
greater_bit zero (suc (suc b)) la lb = absurd (omega (arith, lb))
greater_bit (suc zero) (suc (suc b)) la lb = absurd (omega (arith, lb))
greater_bit (suc (suc a)) b la lb = absurd (omega (arith, la))

pub either_bit : (a b i : ℕ) → nat_eq (bit_at (bit_or a b) i) 1 ≡ (nat_eq (bit_at a i) 1 || nat_eq (bit_at b i) 1)
either_bit a b i = ap (λ c. nat_eq c 1) (bit_at_or a b i) ∙ greater_bit (bit_at a i) (bit_at b i) (bit_at-lt a i) (bit_at-lt b i)

or_true : (p : Bool) → true ≡ (p || true)
or_true p = grind arith

or_false : (p : Bool) → p ≡ (p || false)
or_false p = grind arith

pub bit_more : (bits k i : ℕ) → k < 32 → nat_eq (bit_at (bit_or bits (1 * 2 ^ k % 4294967296)) i) 1 ≡ (nat_eq (bit_at bits i) 1 || nat_eq i k)
bit_more bits k i lt = ⊎_elim (λ same. rw same (ap (λ b. nat_eq b 1) (bit_at_set_same w32 bits k lt) ∙ or_true (nat_eq (bit_at bits k) 1) ∙ ap (λ t. nat_eq (bit_at bits k) 1 || t) (sym (eq-eqb k k refl))))
    (λ other. ap (λ b. nat_eq b 1) (bit_at_set_other w32 bits k lt i other) ∙ or_false (nat_eq (bit_at bits i) 1) ∙ ap (λ t. nat_eq (bit_at bits i) 1 || t) (sym (ne_eqb i k other)))
    (cases_eq i k)
