-- Bits of a number in a list of words of 64: bit p is bit p % 64 of word p / 64, and no other number has both. So a
-- word that changes in one bit changes one number's. The next bit from a place on is sought word by word: a word is
-- moved down to the place, and where it is 0 none of its bits is set from there on; else its lowest bit is the next
-- one, and all before it are 0.
use Rattle.std.proofs.Common.{◌≡◌, ◌≢◌, ◌∙◌, ℕ, ◌+◌, ◌-◌, ◌*◌, ◌/◌, ◌%◌, ◌^◌, ◌<◌, ◌≤◌, arith, ap, Bool, true, false, sym, List, length, get_or, w64, ⊎_elim}
use Rattle.std.proofs.Math.ListN.{set}
use Rattle.std.specs.Prelude.{◌||◌, ◌&&◌, not, nat_eq}
use Rattle.std.specs.Int.{bit_at, trailing_zeros}
use Rattle.std.specs.Int.Count.{trailing_of_zero}
use Rattle.std.proofs.Math.Nat.{div-div-eq-div-mul}
use Rattle.std.proofs.lemmas.Nat.{pow-add}
use Rattle.std.proofs.lemmas.Bool.{eq-eqb, ne_eqb, cases_eq, cases_lt}
use Rattle.std.proofs.lemmas.List.{get_or-set_same, get_or-set_other}
use Rattle.std.proofs.lemmas.Nat.Bits.{bit_at-zero, bit_at-trailing_zeros}
use Rattle.branch_marks.specs.inside.BitRows.{bit}

or_yes : (x t : Bool) → t ≡ true → true ≡ (x || t)
or_yes x t e = grind arith

or_no : (x t : Bool) → t ≡ false → x ≡ (x || t)
or_no x t e = grind arith

and_yes : (x t : Bool) → t ≡ true → false ≡ (x && not t)
and_yes x t e = grind arith

and_no : (x t : Bool) → t ≡ false → x ≡ (x && not t)
and_no x t e = grind arith

-- a number with the word and the place in the word of another one is that other one
same_number : (p q : ℕ) → q / 64 ≡ p / 64 → q % 64 ≡ p % 64 → q ≡ p
same_number p q word place = omega arith

in_words : (words : List ℕ) (p : ℕ) → p < 64 * length words → p / 64 < length words
in_words words p lt = omega arith

other_word : (words : List ℕ) (p v q : ℕ) → q / 64 ≢ p / 64 → bit (set words (p / 64) v) q ≡ bit words q
unfolding bit
other_word words p v q ne = ap (λ w. nat_eq (bit_at w (q % 64)) 1) (get_or-set_other words (p / 64) (q / 64) v 0 ne)

same_word : (words : List ℕ) (p v q : ℕ) → p < 64 * length words → q / 64 ≡ p / 64 → bit (set words (p / 64) v) q ≡ nat_eq (bit_at v (q % 64)) 1
unfolding bit
same_word words p v q lt same = ap (λ w. nat_eq (bit_at w (q % 64)) 1) (ap (λ i. get_or (set words (p / 64) v) i 0) same ∙ get_or-set_same words (p / 64) v 0 (in_words words p lt))

own_word : (words : List ℕ) (p q : ℕ) → q / 64 ≡ p / 64 → bit words q ≡ nat_eq (bit_at (get_or words (p / 64) 0) (q % 64)) 1
unfolding bit
own_word words p q same = ap (λ i. nat_eq (bit_at (get_or words i 0) (q % 64)) 1) same

-- a word whose bit at a place is set, and whose other bits are as they were
pub set_bit : (words : List ℕ) (p v : ℕ) → p < 64 * length words → bit_at v (p % 64) ≡ 1 → ((i : ℕ) → i < 64 → i ≢ p % 64 → bit_at v i ≡ bit_at (get_or words (p / 64) 0) i)
    → (q : ℕ) → bit (set words (p / 64) v) q ≡ (bit words q || nat_eq q p)
set_bit words p v lt here others q = ⊎_elim
    (λ same. ⊎_elim
    (λ place. same_word words p v q lt same ∙ ap (λ i. nat_eq (bit_at v i) 1) place ∙ ap (λ b. nat_eq b 1) here
    ∙ or_yes (bit words q) (nat_eq q p) (eq-eqb q p (same_number p q same place)))
    (λ other. same_word words p v q lt same ∙ ap (λ b. nat_eq b 1) (others (q % 64) (omega arith) other) ∙ sym (own_word words p q same)
    ∙ or_no (bit words q) (nat_eq q p) (ne_eqb q p (λ e. other (ap (λ n. n % 64) e))))
    (cases_eq (q % 64) (p % 64)))
    (λ ne. other_word words p v q ne ∙ or_no (bit words q) (nat_eq q p) (ne_eqb q p (λ e. ne (ap (λ n. n / 64) e))))
    (cases_eq (q / 64) (p / 64))

-- the same with a bit that is cleared
pub clear_bit : (words : List ℕ) (p v : ℕ) → p < 64 * length words → bit_at v (p % 64) ≡ 0 → ((i : ℕ) → i < 64 → i ≢ p % 64 → bit_at v i ≡ bit_at (get_or words (p / 64) 0) i)
    → (q : ℕ) → bit (set words (p / 64) v) q ≡ (bit words q && not (nat_eq q p))
clear_bit words p v lt here others q = ⊎_elim
    (λ same. ⊎_elim
    (λ place. same_word words p v q lt same ∙ ap (λ i. nat_eq (bit_at v i) 1) place ∙ ap (λ b. nat_eq b 1) here
    ∙ and_yes (bit words q) (nat_eq q p) (eq-eqb q p (same_number p q same place)))
    (λ other. same_word words p v q lt same ∙ ap (λ b. nat_eq b 1) (others (q % 64) (omega arith) other) ∙ sym (own_word words p q same)
    ∙ and_no (bit words q) (nat_eq q p) (ne_eqb q p (λ e. other (ap (λ n. n % 64) e))))
    (cases_eq (q % 64) (p % 64)))
    (λ ne. other_word words p v q ne ∙ and_no (bit words q) (nat_eq q p) (ne_eqb q p (λ e. ne (ap (λ n. n / 64) e))))
    (cases_eq (q / 64) (p / 64))

-- a bit of a word that is moved down stands higher by as much
moved : (n low i : ℕ) → bit_at (n / 2 ^ low) i ≡ bit_at n (low + i)
moved n low i = ap (λ m. m % 2) (div-div-eq-div-mul n (2 ^ low) (2 ^ i) ∙ ap (λ d. n / d) (sym (pow-add 2 low i)))

-- no bit of a word that is 0 is set
no_bits : (word low i : ℕ) → low ≤ i → word / 2 ^ low ≡ 0 → bit_at word i ≡ 0
no_bits word low i le none =
    let split : low + (i - low) ≡ i = omega arith in
    sym (ap (λ j. bit_at word j) split) ∙ sym (moved word low (i - low)) ∙ ap (λ w. bit_at w (i - low)) none ∙ bit_at-zero (i - low)

-- from a place on, the bits below the lowest one that is set are 0
pub below_lowest : (word low : ℕ) → word / 2 ^ low < 2 ^ 64 → (i : ℕ) → low ≤ i → i < low + trailing_zeros w64 (word / 2 ^ low) → bit_at word i ≡ 0
below_lowest word low small i le lt = ⊎_elim
    (λ none. no_bits word low i le none)
    (λ some.
    let split : low + (i - low) ≡ i = omega arith in
    let zeros = bit_at-trailing_zeros w64 (word / 2 ^ low) (omega (arith, some)) small in
    sym (ap (λ j. bit_at word j) split) ∙ sym (moved word low (i - low)) ∙ zeros.2 (i - low) (omega (arith, lt, le)))
    (cases_eq (word / 2 ^ low) 0)

-- and the lowest one is 1
pub at_lowest : (word low : ℕ) → word / 2 ^ low < 2 ^ 64 → low + trailing_zeros w64 (word / 2 ^ low) < 64 → bit_at word (low + trailing_zeros w64 (word / 2 ^ low)) ≡ 1
at_lowest word low small lt = ⊎_elim
    (λ none.
    let all : trailing_zeros w64 (word / 2 ^ low) ≡ 64 = ap (λ n. trailing_zeros w64 n) none ∙ trailing_of_zero 64 in
    absurd (omega (arith, all, lt)))
    (λ some. sym (moved word low (trailing_zeros w64 (word / 2 ^ low))) ∙ (bit_at-trailing_zeros w64 (word / 2 ^ low) (omega (arith, some)) small).1)
    (cases_eq (word / 2 ^ low) 0)

-- the bit at a place in a word
bit_of : (words : List ℕ) (w i : ℕ) → i < 64 → bit words (64 * w + i) ≡ nat_eq (bit_at (get_or words w 0) i) 1
unfolding bit
bit_of words w i lt =
    let word : (64 * w + i) / 64 ≡ w = omega arith in
    let place : (64 * w + i) % 64 ≡ i = omega arith in
    ap (λ v. nat_eq (bit_at (get_or words v 0) ((64 * w + i) % 64)) 1) word ∙ ap (λ j. nat_eq (bit_at (get_or words w 0) j) 1) place

-- where nothing is set before a place of a word, nor from there up to another place, nothing is set before that
pub none_further : (words : List ℕ) (from w low found : ℕ) → ((q : ℕ) → from ≤ q → q < 64 * w + low → bit words q ≡ false)
    → ((i : ℕ) → low ≤ i → i < found → i < 64 → bit_at (get_or words w 0) i ≡ 0)
    → (q : ℕ) → from ≤ q → q < 64 * w + found → q < 64 * w + 64 → bit words q ≡ false
none_further words from w low found before here q le lt most = ⊎_elim
    (λ earlier. before q le earlier)
    (λ later.
    let place : 64 * w + (q - 64 * w) ≡ q = omega (arith, later) in
    sym (ap (λ p. bit words p) place) ∙ bit_of words w (q - 64 * w) (omega (arith, most))
    ∙ ap (λ b. nat_eq b 1) (here (q - 64 * w) (omega (arith, later)) (omega (arith, lt, later)) (omega (arith, most))))
    (cases_lt q (64 * w + low))

-- a bit of a word that is 1 is set
pub found_here : (words : List ℕ) (w found : ℕ) → found < 64 → bit_at (get_or words w 0) found ≡ 1 → bit words (64 * w + found) ≡ true
found_here words w found lt one = bit_of words w found lt ∙ ap (λ b. nat_eq b 1) one
