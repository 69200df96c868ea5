-- How many of what is asked for the aircraft can fly: all together, and each that can fly any. For src/shares.rt.
use Rattle.std.specs.Prelude.{ℕ, ℤ, pos, ◌+◌, List, [], ◌∷◌, ◌++◌, codes, if◌then◌else◌}
use Rattle.std.specs.Fmt.{signed_decimal}
use Rattle.std.specs.Ordering.{int_eq}
use Rattle.tail_book.specs.Seen.{BookSeen}
use Rattle.tail_book.specs.Lookup.{tail_of}
use Rattle.tail_book.specs.Sums.{total}
use Rattle.plan_report.specs.Lines.{newline}

-- an aircraft with its most, behind a mark
abbrev pub share_text : BookSeen → List ℕ → ℕ → ℤ → List ℕ
share_text book mark k most = mark ++ (tail_of book k).name ++ codes " " ++ signed_decimal most

-- a colon before the first aircraft, and a comma before each other
abbrev pub first_mark : List ℕ
first_mark = codes ": "

abbrev pub next_mark : List ℕ
next_mark = codes ", "

-- the mosts of aircraft k, k + 1 and so on, but those of 0
abbrev pub shares_text : BookSeen → List ℕ → ℕ → List ℤ → List ℕ
shares_text book mark k [] = []
shares_text book mark k (most ∷ rest) =
    if int_eq most (pos 0) then shares_text book mark (k + 1) rest else share_text book mark k most ++ shares_text book next_mark (k + 1) rest

-- what all aircraft can fly, and what each of them can
abbrev pub at_most_line : BookSeen → List ℤ → List ℕ
at_most_line book mosts = codes "at most " ++ signed_decimal (total mosts) ++ shares_text book first_mark 0 mosts ++ newline
