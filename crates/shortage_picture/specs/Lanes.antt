-- The rows of a side's activities: each has a row of its own, and where there are more than forty, they are dealt out to forty rows in
-- turn. For src/lanes.rt.
use Rattle.std.specs.Prelude.{ℕ, ℤ, ◌+◌, ◌%◌, List, [], ◌∷◌, ◌++◌, None, length, min, nat_lt, if◌then◌else◌}
use Rattle.tail_book.specs.Seen.{BookSeen}
use Rattle.tail_book.specs.Lookup.{airport_of}
use Rattle.plan_picture.specs.Bars.{bar_lines}
use Rattle.plan_picture.specs.Rows.{head_line}
use Rattle.shortage_picture.specs.Fixed.{brought_close, brought_open}
use Rattle.shortage_picture.specs.Sides.{place_of, word_of}
use Rattle.shortage_picture.specs.declared.lanes.TheConstants.{LANES}
use Rattle.shortage_picture.specs.declared.sides.Side.{Side}
use Rattle.shortage_picture.specs.declared.sides.Side.TheVariants.{Brought}

-- how many rows a side's activities have
abbrev pub lanes_of : List ℕ → ℕ
lanes_of list = min (length list) LANES

-- the head of a row, before its first activity: the airport where that counts, and its side
abbrev pub head_lines : BookSeen → Side → ℕ → ℕ → ℕ → ℕ → List (List ℕ)
head_lines book side width row i a =
    if nat_lt i LANES then head_line row width (airport_of book (place_of book side a)).name (word_of side) [] ∷ [] else []

-- the activity of number i of its side, in the row that it is dealt to
abbrev pub lane_lines : BookSeen → Side → ℤ → ℕ → ℕ → ℕ → ℕ → List (List ℕ)
lane_lines book side first width row i a =
    head_lines book side width (row + i % LANES) i a ++ bar_lines book first (row + i % LANES) i a [] None

-- the activities of a side, from number i on
abbrev pub lanes_from : BookSeen → Side → ℤ → ℕ → ℕ → ℕ → List ℕ → List (List ℕ)
lanes_from book side first width row i [] = []
lanes_from book side first width row i (a ∷ rest) = lane_lines book side first width row i a ++ lanes_from book side first width row (i + 1) rest

-- the brought activities, in their colour
abbrev pub brought_lines : BookSeen → ℤ → ℕ → ℕ → List ℕ → List (List ℕ)
brought_lines book first width row list =
    (brought_open ∷ []) ++ lanes_from book Brought first width row 0 list ++ brought_close ∷ []
