-- Numbers that are put over the front of zeros make a padded row: behind as many numbers as were put there the zeros
-- are as they were, and the length is that of the zeros, as there are no more numbers than these.
use Rattle.std.proofs.Common.{◌≡◌, ◌++◌, ◌≤◌, List, ℤ, length, drop, arith, replicate, length-append, length-drop, refl}
use Rattle.std.proofs.lemmas.List.{drop_at, drop-replicate}
use Rattle.std.specs.Prelude.{pos}
use Rattle.tail_book.specs.declared.limits.TheConstants.{COUNTER_LIMIT}
use Rattle.branch_marks.specs.inside.RowParts.{IsPadded}

pub IsPadded-over_zeros : (xs ys : List ℤ) → ys ≡ xs → length xs ≤ COUNTER_LIMIT
    → IsPadded (record { count = length xs; values = ys ++ drop (length xs) (replicate COUNTER_LIMIT (pos 0)) })
IsPadded-over_zeros xs ys same short =
    let n : length ys ≡ length xs = rw same refl in
    record {
      short = short;
      whole = omega (arith, length-append ys (drop (length xs) (replicate COUNTER_LIMIT (pos 0))), length-drop (length xs) (replicate COUNTER_LIMIT (pos 0)), n);
      zeros = rw (drop_at ys (drop (length xs) (replicate COUNTER_LIMIT (pos 0))) (length xs) n) (drop-replicate (length xs) COUNTER_LIMIT (pos 0));
    }
