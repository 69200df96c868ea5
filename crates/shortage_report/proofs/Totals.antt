-- Sums of numbers of which none is negative: no part of one is negative, so each part is at most the whole.
use Rattle.std.proofs.Common.{◌≡◌, ℕ, zero, suc, ◌+◌, ℤ, pos, ◌+ℤ◌, ◌≤ℤ◌, ◌<◌, arith, List, [], ◌∷◌, ap, drop, get_or, length}
use Rattle.std.proofs.lemmas.Int.{ints}
use Rattle.std.proofs.lemmas.List.{drop_more}
use Rattle.std.proofs.lemmas.List.Elements.{All-head, All-tail}
use Rattle.std.specs.Prelude.{All}
use Rattle.tail_book.specs.Sums.{total}

pub total_none_below : (list : List ℤ) → All (λ z. pos 0 ≤ℤ z) list → pos 0 ≤ℤ total list
total_none_below [] all = omega (arith, ints)
total_none_below (z ∷ list) all =
    let here = All-head (λ n. pos 0 ≤ℤ n) z list all in
    let rest = total_none_below list (All-tail (λ n. pos 0 ≤ℤ n) z list all) in
    omega (arith, ints, here, rest)

pub part_none_below : (list : List ℤ) (i : ℕ) → All (λ z. pos 0 ≤ℤ z) list → pos 0 ≤ℤ total (drop i list)
part_none_below list zero all = total_none_below list all
part_none_below [] (suc i) all = omega (arith, ints)
part_none_below (z ∷ list) (suc i) all = part_none_below list i (All-tail (λ n. pos 0 ≤ℤ n) z list all)

-- one number more
pub added : (list : List ℤ) (i : ℕ) (sum : ℤ) → i < length list → (sum +ℤ total (drop i list)) ≡ total list
    → ((sum +ℤ get_or list i (pos 0)) +ℤ total (drop (i + 1) list)) ≡ total list
added list i sum below so_far = let more = ap total (drop_more list i (pos 0) below) in omega (arith, ints, so_far, more)
