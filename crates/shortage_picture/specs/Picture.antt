-- The picture of a shortage, as the text of an SVG: its front with the title, and for each day on which it lies a strip with the curfews,
-- the dates, and the rows of the asked and the brought activities.
use Rattle.std.specs.Prelude.{ℕ, ◌+◌, List, [], ◌∷◌, ◌++◌, codes, decimal, length, Option, if◌then◌else◌}
use Rattle.tail_book.specs.Seen.{BookSeen}
use Rattle.plan_report.specs.Lines.{newline, text_of}
use Rattle.plan_picture.specs.Curfews.{bands}
use Rattle.plan_picture.specs.Fixed.{close, grid_patterns, html_close, html_open, style}
use Rattle.plan_picture.specs.Layout.{days_shown, first_moment, y_of}
use Rattle.plan_picture.specs.Picture.{day_lines, open_line, whole_front, width_of}
use Rattle.plan_picture.specs.Strips.{strip_top}
use Rattle.plan_picture.specs.declared.layout.TheConstants.{LEFT, DAY_WIDTH}
use Rattle.shortage_reader.specs.Told.{ToldSeen}
use Rattle.shortage_picture.specs.Fixed.{brought_style}
use Rattle.shortage_picture.specs.Lanes.{brought_lines, lanes_from, lanes_of}
use Rattle.shortage_picture.specs.Span.{days_of, first_day}
use Rattle.shortage_picture.specs.Strips.{strip_lines}
use Rattle.shortage_picture.specs.declared.picture.View.{View}
use Rattle.shortage_picture.specs.declared.sides.Side.TheVariants.{Asked}

-- the height of a strip and what stands above it: a row for each lane of both sides
abbrev pub height_of : ToldSeen → ℕ
height_of told = y_of (lanes_of told.asked + lanes_of told.brought) + 20

-- the title: what is wanting, how many activities are asked for and brought, and how many of them the aircraft can fly
abbrev pub title_line : ToldSeen → List ℕ
title_line told =
    codes "<text class='title' x='10' y='40'>" ++ told.because ++ codes ": asked " ++ decimal (length told.asked) ++ codes ", brought "
    ++ decimal (length told.brought) ++ codes ", " ++ told.at_most ++ (codes "</text>" ++ newline)

-- what stands before what the strips show parts of
abbrev pub front_lines : ℕ → ℕ → ToldSeen → List (List ℕ)
front_lines height days told =
    open_line (LEFT + DAY_WIDTH) (strip_top height days) ∷ style ∷ brought_style ∷ grid_patterns ∷ title_line told ∷ []

-- what stands at its minutes: the curfews, the dates, and the rows of both sides
abbrev pub body_lines : Option ℕ → BookSeen → ToldSeen → List (List ℕ)
body_lines airport book told =
    bands book airport (height_of told)
    ++ day_lines (first_moment book) (days_shown book)
    ++ lanes_from book Asked (first_moment book) (width_of book) 0 0 told.asked
    ++ brought_lines book (first_moment book) (width_of book) (lanes_of told.asked) told.brought

-- the picture, a strip for each day on which the shortage lies
abbrev pub svg_lines : Option ℕ → BookSeen → ToldSeen → List (List ℕ)
svg_lines airport book told =
    front_lines (height_of told) (days_of book told) told
    ++ whole_front (width_of book) (height_of told)
    ++ body_lines airport book told
    ++ strip_lines (height_of told) (first_day book told) (days_of book told)
    ++ close ∷ []

-- the same, as a page of its own where one is asked for
abbrev pub page_lines : View → BookSeen → ToldSeen → List (List ℕ)
page_lines view book told =
    (if view.html then html_open ∷ [] else []) ++ svg_lines view.airport book told ++ (if view.html then html_close ∷ [] else [])

-- the picture of a shortage
abbrev pub picture : View → BookSeen → ToldSeen → List ℕ
picture view book told = text_of (page_lines view book told)
