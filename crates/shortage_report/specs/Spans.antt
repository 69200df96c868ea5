-- When activities begin and end, taken together: the number at first is what stands where there are none. For src/spans.rt.
use Rattle.std.specs.Prelude.{ℕ, ℤ, List, [], ◌∷◌}
use Rattle.std.specs.Int.{int_max, int_min}
use Rattle.tail_book.specs.Seen.{BookSeen}
use Rattle.tail_book.specs.Lookup.{end_of, start_of}

-- the earliest of a moment and the starts of activities
abbrev pub earliest_start : BookSeen → ℤ → List ℕ → ℤ
earliest_start book earliest [] = earliest
earliest_start book earliest (a ∷ rest) = earliest_start book (int_min earliest (start_of book a)) rest

-- the latest of a moment and their starts
abbrev pub latest_start : BookSeen → ℤ → List ℕ → ℤ
latest_start book latest [] = latest
latest_start book latest (a ∷ rest) = latest_start book (int_max latest (start_of book a)) rest

-- the latest of a moment and their ends
abbrev pub latest_end : BookSeen → ℤ → List ℕ → ℤ
latest_end book latest [] = latest
latest_end book latest (a ∷ rest) = latest_end book (int_max latest (end_of book a)) rest
