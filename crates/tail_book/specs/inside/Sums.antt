-- The laws of sums over a list and below a number, for src/laws/sums.rt.
use Rattle.std.specs.Prelude.{ℕ, ℤ, pos, ◌+ℤ◌, ◌<◌, ◌≡◌, List, ◌++◌, All, length, map, count_by, nat_eq, slice_index_or}
use Rattle.tail_book.specs.Sums.{total, sum_below}

-- the sum of two lists together is that of both
abbrev pub TotalOfTwoLists : Type 0
TotalOfTwoLists = (xs ys : List ℤ) → total (xs ++ ys) ≡ total xs +ℤ total ys

-- the sum of a list is that of its elements by number
abbrev pub TotalByNumber : Type 0
TotalByNumber = (zs : List ℤ) → total zs ≡ sum_below (length zs) (λ i. slice_index_or zs i (pos 0))

-- each number below n stands once in the list, and no other does
pub record IsPartition (n : ℕ) (xs : List ℕ) : Type 0 where
  pub below : All (λ a. a < n) xs
  pub once : (a : ℕ) → a < n → count_by (nat_eq a) xs ≡ 1

-- the sum over such a list is the sum below n
abbrev pub TotalOfPartition : Type 0
TotalOfPartition = (n : ℕ) (f : ℕ → ℤ) (xs : List ℕ) → IsPartition n xs → total (map f xs) ≡ sum_below n f

-- and it has n elements
abbrev pub LengthOfPartition : Type 0
LengthOfPartition = (n : ℕ) (xs : List ℕ) → IsPartition n xs → length xs ≡ n
