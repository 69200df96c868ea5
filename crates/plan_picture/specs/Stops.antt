-- What is marked between two bars: the turn that is asked for, and a stop that clears counters.
use Rattle.std.specs.Prelude.{ℕ, ℤ, pos, ◌+◌, ◌+ℤ◌, List, [], ◌∷◌, ◌++◌, codes, int_lt, if◌then◌else◌}
use Rattle.tail_book.specs.Seen.{BookSeen, CounterSeen}
use Rattle.tail_book.specs.Counters.{is_cleared}
use Rattle.tail_book.specs.Link.{free_from, turn_time}
use Rattle.tail_book.specs.Lookup.{start_of}
use Rattle.tail_book.specs.Numbers.{is_empty}
use Rattle.tail_book.specs.declared.place.Place.{Place}
use Rattle.plan_report.specs.Lines.{newline}
use Rattle.plan_picture.specs.Layout.{span, y_of}

-- the names of the counters that the stop before b clears
abbrev pub cleared_names : BookSeen → ℕ → Place → ℕ → List CounterSeen → List ℕ
cleared_names book k x b [] = []
cleared_names book k x b (counter ∷ counters) =
    (if is_cleared book k x b counter then codes " " ++ counter.name else []) ++ cleared_names book k x b counters

-- the stop, with the counters that it clears
abbrev pub stop_line : BookSeen → ℤ → ℕ → ℕ → Place → ℕ → List ℕ → List ℕ
stop_line book first row k x b names =
    codes "<svg class='stop'" ++ span first (y_of row + 30) (free_from book k x) (start_of book b) ++ codes " height='20'><title>clears"
    ++ names ++ codes "</title><rect width='100%' height='100%'/><text class='port' x='50%' y='15' text-anchor='middle'>" ++ names
    ++ (codes "</text></svg>" ++ newline)

-- the minutes that are asked for between two flights, from the end of the first on
abbrev pub turn_line : BookSeen → ℤ → ℕ → ℕ → Place → ℕ → List ℕ
turn_line book first row k x b =
    codes "<rect class='turn'" ++ span first (y_of row + 37) (free_from book k x) (free_from book k x +ℤ turn_time book k x b)
    ++ (codes " height='6'/>" ++ newline)

-- the stop before activity b of aircraft k, where it clears a counter
abbrev pub stops : BookSeen → ℤ → ℕ → ℕ → Place → ℕ → List (List ℕ)
stops book first row k x b =
    if is_empty (cleared_names book k x b book.rules.counters) then []
    else stop_line book first row k x b (cleared_names book k x b book.rules.counters) ∷ []

-- what is marked before activity b of aircraft k: the stop where it clears a counter, and the turn where one is asked for
abbrev pub stop_lines : BookSeen → ℤ → ℕ → ℕ → Place → ℕ → List (List ℕ)
stop_lines book first row k x b =
    stops book first row k x b ++ (if int_lt (pos 0) (turn_time book k x b) then turn_line book first row k x b ∷ [] else [])
