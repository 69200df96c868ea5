-- Where things stand in a picture: from left to right one unit is one minute, and from top to bottom each row has its height.
use Rattle.std.specs.Prelude.{ℕ, ℤ, pos, ◌+◌, ◌-◌, ◌*◌, ◌/◌, ◌+ℤ◌, ◌-ℤ◌, List, [], ◌∷◌, ◌++◌, codes, decimal, unsigned_abs}
use Rattle.std.specs.Int.{int_max, int_rem_euclid}
use Rattle.tail_book.specs.Seen.{ActivitySeen, BookSeen}
use Rattle.tail_book.specs.Lookup.{start_of}
use Rattle.tail_book.specs.declared.limits.TheConstants.{DAY}
use Rattle.plan_picture.specs.declared.layout.TheConstants.{LEFT, TOP, ROW_HEIGHT, DAY_WIDTH}

-- the first moment of the day on which the first activity starts, and 0 where there is none
abbrev pub first_moment : BookSeen → ℤ
first_moment book = start_of book 0 -ℤ int_rem_euclid (start_of book 0) DAY

-- the latest of a moment and the ends of activities
abbrev pub last_end : ℤ → List ActivitySeen → ℤ
last_end latest [] = latest
last_end latest (a ∷ rest) = last_end (int_max latest a.end) rest

-- the minutes from one moment to a later one, and 0 where it is earlier
abbrev pub minutes_to : ℤ → ℤ → ℕ
minutes_to from to = unsigned_abs (int_max (to -ℤ from) (pos 0))

-- how many days a picture shows: all that activities touch
abbrev pub days_shown : BookSeen → ℕ
days_shown book = minutes_to (first_moment book) (last_end (first_moment book) book.activities) / DAY_WIDTH + 1

-- the first moment behind them
abbrev pub end_shown : BookSeen → ℤ
end_shown book = first_moment book +ℤ pos (days_shown book * DAY_WIDTH)

-- where a moment stands, in units from the left: a minute is a unit, and what is before the first day stands at its start
abbrev pub x_of : ℤ → ℤ → ℕ
x_of first moment = LEFT + minutes_to first moment

-- where a row begins, in units from the top
abbrev pub y_of : ℕ → ℕ
y_of row = TOP + row * ROW_HEIGHT

-- the place and width of what lasts from one moment to another, at a height, as attributes
abbrev pub span : ℤ → ℕ → ℤ → ℤ → List ℕ
span first y from to =
    codes " x='" ++ decimal (x_of first from) ++ codes "' y='" ++ decimal y ++ codes "' width='" ++ decimal (x_of first to - x_of first from) ++ codes "'"
