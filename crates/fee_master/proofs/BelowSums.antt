-- Sums below a number: from their last term, term by term, and as the total of a list.
use Rattle.std.proofs.Common.{◌≡◌, ◌<◌, ◌+ℤ◌, ◌≤ℤ◌, ℕ, zero, suc, ℤ, pos, arith, ap, ◌∙◌, map, get_or}
use Rattle.std.proofs.lemmas.Int.{ints}
use Rattle.std.proofs.lemmas.List.FromFn.{length-map-range_with_len, get_or-map-range_with_len}
use Rattle.std.specs.List.{range_with_len}
use Rattle.tail_book.specs.Sums.{total, sum_below}
use Rattle.tail_book.proofs.Sums.{sum_below_same, total_by_number}

pub last_term : (n : ℕ) (f : ℕ → ℤ) → sum_below (suc n) f ≡ sum_below n f +ℤ f n
last_term zero f = omega (arith, ints)
last_term (suc n) f = let rest = last_term n (λ a. f (suc a)) in omega (arith, ints, rest)

pub term_by_term : (n : ℕ) (f g : ℕ → ℤ) → ((a : ℕ) → a < n → f a ≤ℤ g a) → sum_below n f ≤ℤ sum_below n g
term_by_term zero f g each = omega (arith, ints)
term_by_term (suc n) f g each =
    let here = each 0 (omega arith) in
    let rest = term_by_term n (λ a. f (suc a)) (λ a. g (suc a)) (λ a lt. each (suc a) (omega (arith, lt))) in
    omega (arith, ints, here, rest)

pub total_of_map : (n : ℕ) (f : ℕ → ℤ) → total (map f (range_with_len 0 n)) ≡ sum_below n f
total_of_map n f =
    total_by_number (map f (range_with_len 0 n))
    ∙ ap (λ (m : ℕ). sum_below m (λ i. get_or (map f (range_with_len 0 n)) i (pos 0))) (length-map-range_with_len f 0 n)
    ∙ sum_below_same n (λ i. get_or (map f (range_with_len 0 n)) i (pos 0)) f (λ k lt. get_or-map-range_with_len f 0 n k k (pos 0) lt (omega arith))
