-- The rows of a picture: one for each aircraft in the book's order, and below them what no route has.
use Rattle.std.specs.Prelude.{ℕ, ℤ, ◌+◌, ◌%◌, List, [], ◌∷◌, ◌++◌, codes, decimal, Option, None, if◌then◌else◌}
use Rattle.tail_book.specs.Seen.{BookSeen}
use Rattle.tail_book.specs.Lookup.{aircraft, kind_of, tail_of, type_of}
use Rattle.tail_book.specs.Numbers.{is_empty}
use Rattle.tail_book.specs.declared.place.Place.{Place}
use Rattle.tail_book.specs.declared.place.Place.TheVariants.{Carry, After}
use Rattle.plan_audit.specs.declared.broken.Broken.{Broken}
use Rattle.plan_audit.specs.declared.broken.Broken.TheVariants.{Unknown, Twice, Uncovered, NotAllowed, Curfew, NoLink, Counter}
use Rattle.plan_report.specs.Lines.{newline}
use Rattle.plan_picture.specs.Bars.{bar_lines, rules_at}
use Rattle.plan_picture.specs.Layout.{y_of}
use Rattle.plan_picture.specs.Moved.{moved_from}
use Rattle.plan_picture.specs.Shares.{greatest, share_texts}
use Rattle.plan_picture.specs.Stops.{stop_lines}

-- the line above a row, and its name again at the start of each day but the first
abbrev pub again : ℕ → ℕ → List ℕ → List ℕ
again row width name =
    codes "<path class='line' d='M0 " ++ decimal (y_of row) ++ codes "H" ++ decimal width ++ codes "'/><pattern id='row" ++ decimal row
    ++ codes "' patternUnits='userSpaceOnUse' x='340' y='" ++ decimal (y_of row) ++ codes "' width='1440' height='100'><text class='again' x='8' y='18'>"
    ++ name ++ codes "</text></pattern>"

-- where that is shown, and the frame of the row's head
abbrev pub frame : ℕ → ℕ → List ℕ
frame row width =
    codes "<rect x='1780' y='" ++ decimal (y_of row) ++ codes "' width='" ++ decimal width ++ codes "' height='100' fill='url(#row" ++ decimal row
    ++ codes ")'/><svg y='" ++ decimal (y_of row) ++ codes "' width='336' height='100'>"

-- the head of a row: its name in bold, what stands beside that, and more below
abbrev pub head_line : ℕ → ℕ → List ℕ → List ℕ → List ℕ → List ℕ
head_line row width name beside below =
    again row width name ++ frame row width ++ codes "<text class='name' x='10' y='34'>" ++ name ++ codes " <tspan class='type'>" ++ beside
    ++ codes "</tspan></text><text class='share'>" ++ below ++ (codes "</text></svg>" ++ newline)

-- the head of an aircraft's row: its name, its type, and its counters at their greatest share of the limit
abbrev pub aircraft_line : BookSeen → ℕ → ℕ → List ℕ → List ℕ
aircraft_line book width k route =
    head_line k width (tail_of book k).name (type_of book (kind_of book k)).name (share_texts 0 book.rules.counters (greatest book k route))

-- activity b of aircraft k from its place x on, which is the one of number i in its route: what is marked before it, and its bar
abbrev pub leg_lines : BookSeen → List (Option ℕ) → ℤ → List Broken → ℕ → ℕ → Place → ℕ → List (List ℕ)
leg_lines book homes first rules k i x b =
    stop_lines book first k k x b ++ bar_lines book first k i b (rules_at book k b rules) (moved_from homes k b)

-- the rest of a route from its activity of number i on
abbrev pub route_lines : BookSeen → List (Option ℕ) → ℤ → List Broken → ℕ → ℕ → Place → List ℕ → List (List ℕ)
route_lines book homes first rules k i x [] = []
route_lines book homes first rules k i x (b ∷ route) =
    leg_lines book homes first rules k i x b ++ route_lines book homes first rules k (i + 1) (After b) route

-- the row of aircraft k: its head, and its route
abbrev pub row_lines : BookSeen → List (Option ℕ) → ℤ → ℕ → List Broken → ℕ → List ℕ → List (List ℕ)
row_lines book homes first width rules k route = aircraft_line book width k route ∷ route_lines book homes first rules k 0 Carry route

-- the rows of the aircraft from k on
abbrev pub rows_from : BookSeen → List (Option ℕ) → ℤ → ℕ → List Broken → ℕ → List (List ℕ) → List (List ℕ)
rows_from book homes first width rules k [] = []
rows_from book homes first width rules k (route ∷ routes) =
    row_lines book homes first width rules k route ++ rows_from book homes first width rules (k + 1) routes

-- the activities that no route has
abbrev pub uncovered_in : List Broken → List ℕ
uncovered_in [] = []
uncovered_in (Unknown name ∷ rules) = uncovered_in rules
uncovered_in (Twice name ∷ rules) = uncovered_in rules
uncovered_in (Uncovered a ∷ rules) = a ∷ uncovered_in rules
uncovered_in (NotAllowed k a ∷ rules) = uncovered_in rules
uncovered_in (Curfew k a ∷ rules) = uncovered_in rules
uncovered_in (NoLink k a ∷ rules) = uncovered_in rules
uncovered_in (Counter k a c ∷ rules) = uncovered_in rules

-- the bar of the one of number i among them, in turn in eight rows from a row on
abbrev pub uncovered_bar : BookSeen → ℤ → ℕ → ℕ → ℕ → List (List ℕ)
uncovered_bar book first row i a = bar_lines book first (row + i % 8) i a (codes " uncovered") None

-- their bars, from number i on
abbrev pub uncovered_lines : BookSeen → ℤ → ℕ → ℕ → List ℕ → List (List ℕ)
uncovered_lines book first row i [] = []
uncovered_lines book first row i (a ∷ rest) = uncovered_bar book first row i a ++ uncovered_lines book first row (i + 1) rest

-- their rows from a row on, under a head of their own
abbrev pub uncovered_block : BookSeen → ℤ → ℕ → ℕ → List ℕ → List (List ℕ)
uncovered_block book first width row uncovered = head_line row width (codes "uncovered") [] [] ∷ uncovered_lines book first row 0 uncovered

-- the rows of what no route has, below those of the aircraft, where there is any
abbrev pub uncovered_rows : BookSeen → ℤ → ℕ → List ℕ → List (List ℕ)
uncovered_rows book first width uncovered =
    if is_empty uncovered then [] else uncovered_block book first width (aircraft book) uncovered
