-- Buckets: the numbers of the rows at one node. A row covers another one where none of its values is larger.
-- For src/bucket.rt, src/rows.rt and others.
use Rattle.std.specs.Prelude.{ℕ, ℤ, List, [], ◌∷◌, ◌++◌, ⊤, All, Bool, not, slice_index_or}
use Rattle.std.specs.List.{Contains, filter}
use Rattle.tail_book.specs.CounterOrder.{EachAtMost, each_at_most}

-- the values of the row of a number, none where no row has it
abbrev pub row_at : List (List ℤ) → ℕ → List ℤ
row_at rows i = slice_index_or rows i []

-- row j is in the bucket, and covers these values
abbrev pub IsCoveredBy : List (List ℤ) → List ℕ → List ℤ → ℕ → Type 0
IsCoveredBy rows bucket row j = Contains bucket j × EachAtMost (row_at rows j) row

-- some row of the bucket covers these values
abbrev pub IsCovered : List (List ℤ) → List ℕ → List ℤ → Type 0
IsCovered rows bucket row = (j : ℕ) × IsCoveredBy rows bucket row j

-- whether row j stays where these values enter: they do not cover it
abbrev pub stays_beside : List (List ℤ) → List ℤ → ℕ → Bool
stays_beside rows row j = not (each_at_most row (row_at rows j))

-- the bucket where a row of these values has entered it: what stays, in the same order, and its number at the end
abbrev pub bucket_with : List (List ℤ) → List ℕ → List ℤ → ℕ → List ℕ
bucket_with rows bucket row i = filter (stays_beside rows row) bucket ++ i ∷ []

-- neither of two rows covers the other
pub record AreApart (one other : List ℤ) : Type 0 where
  pub here : ¬ EachAtMost one other
  pub there : ¬ EachAtMost other one

-- no row of the bucket covers one at another place of it
abbrev pub EachApart : List (List ℤ) → List ℕ → Type 0
EachApart rows [] = ⊤
EachApart rows (j ∷ bucket) = All (λ i. AreApart (row_at rows j) (row_at rows i)) bucket × EachApart rows bucket
