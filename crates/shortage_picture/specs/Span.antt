-- The days on which a shortage lies: from the earliest start of its activities to their latest end. For src/span.rt.
use Rattle.std.specs.Prelude.{ℕ, ℤ, pos, ◌+◌, ◌-◌, ◌/◌, List, [], ◌∷◌, min}
use Rattle.std.specs.Int.{int_max, int_min}
use Rattle.tail_book.specs.Seen.{BookSeen}
use Rattle.tail_book.specs.Lookup.{end_of, start_of}
use Rattle.tail_book.specs.declared.limits.TheConstants.{LAST_MOMENT}
use Rattle.plan_picture.specs.Layout.{days_shown, first_moment, minutes_to}
use Rattle.plan_picture.specs.declared.layout.TheConstants.{DAY_WIDTH}
use Rattle.shortage_reader.specs.Told.{ToldSeen}

-- the earliest of a moment and the starts of activities, and the latest of a moment and their ends
abbrev pub earliest_start : BookSeen → ℤ → List ℕ → ℤ
earliest_start book earliest [] = earliest
earliest_start book earliest (a ∷ rest) = earliest_start book (int_min earliest (start_of book a)) rest

abbrev pub latest_end : BookSeen → ℤ → List ℕ → ℤ
latest_end book latest [] = latest
latest_end book latest (a ∷ rest) = latest_end book (int_max latest (end_of book a)) rest

-- the day of a moment, counted from the picture's first
abbrev pub day_of : BookSeen → ℤ → ℕ
day_of book moment = minutes_to (first_moment book) moment / DAY_WIDTH

-- the first and the last day on which an asked or a brought activity lies
abbrev pub first_day : BookSeen → ToldSeen → ℕ
first_day book told = day_of book (int_min (earliest_start book LAST_MOMENT told.asked) (earliest_start book LAST_MOMENT told.brought))

abbrev pub last_day : BookSeen → ToldSeen → ℕ
last_day book told = day_of book (int_max (latest_end book (pos 0) told.asked) (latest_end book (pos 0) told.brought))

-- how many days there are from the one to the other
abbrev pub days_of : BookSeen → ToldSeen → ℕ
days_of book told = min ((last_day book told - first_day book told) + 1) (days_shown book)
