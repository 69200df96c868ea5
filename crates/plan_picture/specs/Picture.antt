-- The picture of a plan, as the text of an SVG: its front with the title, moves, curfews, dates, rows, and what no route has,
-- in one strip of all days, or in a strip for each day.
use Rattle.std.specs.Prelude.{ℕ, ℤ, zero, suc, ◌+◌, ◌*◌, ◌/◌, List, [], ◌∷◌, ◌++◌, codes, decimal, length, min, ◌==◌, unsigned_abs, if◌then◌else◌}
use Rattle.tail_book.specs.Seen.{BookSeen, RawPlanSeen}
use Rattle.tail_book.specs.Cost.{plan_cost}
use Rattle.tail_book.specs.Lookup.{aircraft}
use Rattle.plan_audit.specs.Broken.{broken}
use Rattle.plan_audit.specs.Kept.{kept}
use Rattle.plan_audit.specs.declared.broken.Broken.{Broken}
use Rattle.plan_audit.specs.declared.broken.Broken.TheVariants.{Unknown, Twice, Uncovered, NotAllowed, Curfew, NoLink, Counter}
use Rattle.plan_report.specs.Lines.{newline, text_of}
use Rattle.plan_picture.specs.Calendar.{date_text}
use Rattle.plan_picture.specs.Curfews.{bands}
use Rattle.plan_picture.specs.Fixed.{clock, close, grid_patterns, html_close, html_open, style, whole_open}
use Rattle.plan_picture.specs.Layout.{days_shown, first_moment, y_of}
use Rattle.plan_picture.specs.Moved.{marked_by, moves_lines}
use Rattle.plan_picture.specs.Rows.{rows_from, uncovered_in, uncovered_rows}
use Rattle.plan_picture.specs.Strips.{strip_lines, strip_top}
use Rattle.plan_picture.specs.View.{ViewSeen}
use Rattle.plan_picture.specs.declared.layout.TheConstants.{LEFT, DAY_WIDTH}

-- the width of a picture, and its height: a row for each aircraft, and at most eight for what no route has
abbrev pub width_of : BookSeen → ℕ
width_of book = LEFT + days_shown book * DAY_WIDTH

abbrev pub height_of : BookSeen → List ℕ → ℕ
height_of book uncovered = y_of (aircraft book + min (length uncovered) 8) + 20

-- the head of the picture, whose three units are two pixels
abbrev pub open_line : ℕ → ℕ → List ℕ
open_line width height =
    codes "<svg xmlns='http://www.w3.org/2000/svg' viewBox='0 0 " ++ decimal width ++ codes " " ++ decimal height ++ codes "' width='"
    ++ decimal ((width * 2) / 3) ++ codes "' height='" ++ decimal ((height * 2) / 3) ++ (codes "'>" ++ newline)

-- the grid of days and hours behind the rows, and the hours above them
abbrev pub grid_line : ℕ → ℕ → List ℕ
grid_line width height =
    codes "<svg x='340' y='120' width='" ++ decimal width ++ codes "' height='" ++ decimal height
    ++ codes "'><rect width='100%' height='100%' fill='url(#hours)'/><rect width='100%' height='100%' fill='url(#sixes)'/><rect width='100%' height='100%' fill='url(#days)'/></svg><rect x='340' y='90' width='"
    ++ decimal width ++ (codes "' height='30' fill='url(#clock)'/>" ++ newline)

-- the date of a day, above its hours
abbrev pub day_line : ℤ → ℕ → List ℕ
day_line first d =
    codes "<text class='date' x='" ++ decimal (LEFT + d * DAY_WIDTH + 4) ++ codes "' y='82'>" ++ date_text (unsigned_abs first / DAY_WIDTH + d)
    ++ (codes "</text>" ++ newline)

-- the dates of so many days
abbrev pub day_lines : ℤ → ℕ → List (List ℕ)
day_lines first zero = []
day_lines first (suc n) = day_lines first n ++ day_line first n ∷ []

-- the rules about names that are broken
abbrev pub name_rule : Broken → List ℕ
name_rule (Unknown name) = codes ", unknown " ++ name
name_rule (Twice name) = codes ", twice " ++ name
name_rule (Uncovered a) = []
name_rule (NotAllowed k a) = []
name_rule (Curfew k a) = []
name_rule (NoLink k a) = []
name_rule (Counter k a c) = []

abbrev pub name_rules : List Broken → List ℕ
name_rules [] = []
name_rules (rule ∷ rules) = name_rule rule ++ name_rules rules

-- the title: what the plan costs where it breaks no rule, and else how many rules are broken, and which of those about names
abbrev pub title : ℕ → List Broken → List ℕ
title cost rules =
    if length rules == 0 then codes "cost " ++ decimal cost else codes "broken rules " ++ decimal (length rules) ++ name_rules rules

-- the class that makes the title red, where rules are broken
abbrev pub colour : List Broken → List ℕ
colour rules = if length rules == 0 then [] else codes " broken"

abbrev pub title_line : ℕ → List Broken → List ℕ
title_line cost rules =
    codes "<text class='title" ++ colour rules ++ codes "' x='10' y='40'>" ++ title cost rules ++ (codes "</text>" ++ newline)

-- what stands before the rows: the head, what is always the same, the title and the grid
abbrev pub front_lines : ℕ → ℕ → ℕ → List Broken → List (List ℕ)
front_lines width height cost rules =
    open_line width height ∷ style ∷ grid_patterns ∷ clock ∷ title_line cost rules ∷ grid_line width height ∷ []

-- the same where each day has a strip of its own, as wide as the names and a day
abbrev pub strips_front : ℕ → ℕ → ℕ → List Broken → List (List ℕ)
strips_front height days cost rules =
    open_line (LEFT + DAY_WIDTH) (strip_top height days) ∷ style ∷ grid_patterns ∷ title_line cost rules ∷ []

-- and what stands before the rows in what the strips show parts of
abbrev pub whole_front : ℕ → ℕ → List (List ℕ)
whole_front width height = whole_open ∷ clock ∷ grid_line width height ∷ []

-- what stands at its minutes: the curfews, the dates, the rows, and what no route has
abbrev pub body_lines : ViewSeen → BookSeen → List (List ℕ) → List Broken → List ℕ → List (List ℕ)
body_lines view book plan rules uncovered =
    bands book view.airport (height_of book uncovered)
    ++ day_lines (first_moment book) (days_shown book)
    ++ rows_from book (marked_by view.homes) (first_moment book) (width_of book) rules 0 plan
    ++ uncovered_rows book (first_moment book) (width_of book) uncovered

-- the picture as one strip of all days
abbrev pub in_one : ViewSeen → BookSeen → List (List ℕ) → ℕ → List Broken → List ℕ → List (List ℕ)
in_one view book plan cost rules uncovered =
    front_lines (width_of book) (height_of book uncovered) cost rules
    ++ moves_lines view.homes plan
    ++ body_lines view book plan rules uncovered
    ++ close ∷ []

-- and as a strip for each day
abbrev pub by_day : ViewSeen → BookSeen → List (List ℕ) → ℕ → List Broken → List ℕ → List (List ℕ)
by_day view book plan cost rules uncovered =
    strips_front (height_of book uncovered) (days_shown book) cost rules
    ++ moves_lines view.homes plan
    ++ whole_front (width_of book) (height_of book uncovered)
    ++ body_lines view book plan rules uncovered
    ++ strip_lines (height_of book uncovered) (days_shown book)
    ++ close ∷ []

-- the lines of the picture of a plan that costs so much, or breaks these rules
abbrev pub svg_lines : ViewSeen → BookSeen → List (List ℕ) → ℕ → List Broken → List (List ℕ)
svg_lines view book plan cost rules =
    if view.by_day then by_day view book plan cost rules (uncovered_in rules) else in_one view book plan cost rules (uncovered_in rules)

-- the same, as a page of its own where one is asked for
abbrev pub page_lines : ViewSeen → BookSeen → List (List ℕ) → ℕ → List Broken → List (List ℕ)
page_lines view book plan cost rules =
    (if view.html then html_open ∷ [] else []) ++ svg_lines view book plan cost rules ++ (if view.html then html_close ∷ [] else [])

-- the picture of a plan: of what is kept of it, at its cost, with the rules that it breaks
abbrev pub picture : ViewSeen → BookSeen → RawPlanSeen → List ℕ
picture view book raw = text_of (page_lines view book (kept book raw) (plan_cost book (kept book raw)) (broken book raw))
