-- The fields of one record, by their numbers from 0 on.
use Rattle.std.specs.Prelude.{ℕ, List, [], Bool, slice_index_or}
use Rattle.std.specs.Str.{bytes_eq}
use Rattle.std.specs.Cmp.Lexicographic.{pointwise}

-- the field at a place, counted from 0, and an empty one past the last
abbrev pub field_at : List (List ℕ) → ℕ → List ℕ
field_at fields place = slice_index_or fields place []

-- as many fields, and the same bytes in each
abbrev pub are_same : List (List ℕ) → List (List ℕ) → Bool
are_same fields texts = pointwise bytes_eq fields texts
