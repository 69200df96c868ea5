-- Sums below a number: of a difference, and of how often each number stands in a list that has none twice.
use Rattle.std.proofs.Common.{◌≡◌, ◌≢◌, ℕ, zero, suc, ℤ, pos, ◌+ℤ◌, ◌-ℤ◌, ◌<◌, Bool, true, false, cond, arith, List, [], ◌∷◌, length, refl}
use Rattle.std.proofs.lemmas.Int.{ints}
use Rattle.std.proofs.lemmas.Bool.{eq-eqb, ne_eqb}
use Rattle.std.proofs.lemmas.List.Elements.{All-head, All-tail}
use Rattle.std.proofs.lemmas.List.Folds.{list_any_none}
use Rattle.std.specs.Prelude.{All, AllPairs, nat_eq, ◌||◌}
use Rattle.tail_book.specs.Numbers.{contains}
use Rattle.tail_book.specs.Sums.{sum_below}
use Rattle.tail_book.proofs.Sums.{sum_below_same}

-- 1 for a number that the list has, and 0 for any other
abbrev pub share : List ℕ → ℕ → ℤ
share list a = pos (cond (contains list a) 1 0)

pub sum_below_less : (n : ℕ) (f g : ℕ → ℤ) → sum_below n (λ a. f a -ℤ g a) ≡ sum_below n f -ℤ sum_below n g
sum_below_less zero f g = omega (arith, ints)
sum_below_less (suc n) f g = let rest = sum_below_less n (λ a. f (suc a)) (λ a. g (suc a)) in omega (arith, ints, rest)

sum_below_zero : (n : ℕ) → sum_below n (λ a. pos 0) ≡ pos 0
sum_below_zero zero = refl
sum_below_zero (suc n) = let h = sum_below_zero n in omega (arith, ints, h)

-- two functions that differ at x alone, and there by 1
one_more_at : (n x : ℕ) (f g : ℕ → ℤ) → x < n → g x ≡ f x +ℤ pos 1 → ((a : ℕ) → a ≢ x → g a ≡ f a) → sum_below n g ≡ sum_below n f +ℤ pos 1
one_more_at zero x f g lt here others = absurd (omega (arith, lt))
one_more_at (suc n) zero f g lt here others =
    let rest = sum_below_same n (λ a. g (suc a)) (λ a. f (suc a)) (λ a h. others (suc a) (λ e. absurd (omega (arith, e)))) in
    omega (arith, ints, here, rest)
one_more_at (suc n) (suc x) f g lt here others =
    let first : g 0 ≡ f 0 = others 0 (λ e. absurd (omega (arith, e))) in
    let rest = one_more_at n x (λ a. f (suc a)) (λ a. g (suc a)) (omega (arith, lt)) here (λ a ne. others (suc a) (λ e. ne (omega (arith, e)))) in
    omega (arith, ints, first, rest)

-- what a test at the front adds
taken : (b c : Bool) → b ≡ true → c ≡ false → pos (cond (b || c) 1 0) ≡ pos (cond c 1 0) +ℤ pos 1
taken b c here later = rw (here, later) refl

passed : (b c : Bool) → b ≡ false → pos (cond (b || c) 1 0) ≡ pos (cond c 1 0)
passed b c not_here = rw not_here refl

-- the shares in a list that has no number twice, all of them below n, come to its length
pub shares_below : (n : ℕ) (list : List ℕ) → All (λ a. a < n) list → AllPairs (λ a b. a ≢ b) list → sum_below n (share list) ≡ pos (length list)
shares_below n [] below once = sum_below_zero n
shares_below n (x ∷ list) below once =
    let rest = shares_below n list (All-tail (λ a. a < n) x list below) (λ i j d l m. once (suc i) (suc j) d (omega (arith, l)) (omega (arith, m))) in
    let new : contains list x ≡ false = list_any_none (nat_eq x) list (λ i d l. ne_eqb x _ (once 0 (suc i) d (omega arith) (omega (arith, l)))) in
    let more = one_more_at n x (share list) (share (x ∷ list)) (All-head (λ a. a < n) x list below)
    (taken (nat_eq x x) (contains list x) (eq-eqb x x refl) new) (λ a ne. passed (nat_eq a x) (contains list a) (ne_eqb a x ne)) in
    omega (arith, ints, rest, more)
