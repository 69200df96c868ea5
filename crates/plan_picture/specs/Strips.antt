-- A strip for each day, one below the other: the names and what stands at that day's minutes. What all strips show parts of
-- stands once, and is drawn by reference. For src/strips.rt.
use Rattle.std.specs.Prelude.{ℕ, zero, suc, ◌+◌, ◌-◌, ◌*◌, List, [], ◌∷◌, ◌++◌, codes, decimal}
use Rattle.plan_report.specs.Lines.{newline}
use Rattle.plan_picture.specs.Fixed.{whole_close}
use Rattle.plan_picture.specs.declared.layout.TheConstants.{LEFT, DAY_WIDTH}
use Rattle.plan_picture.specs.declared.strips.TheConstants.{ABOVE}

-- the height of a strip: that of a picture of all days in one, without what stands above the dates
abbrev pub strip_height : ℕ → ℕ
strip_height height = height - ABOVE

-- where the strip of a day begins, in units from the top
abbrev pub strip_top : ℕ → ℕ → ℕ
strip_top height d = ABOVE + d * strip_height height

-- what stands from one place on, so wide, is shown in the strip of a day from another place on
abbrev pub part : ℕ → ℕ → ℕ → ℕ → ℕ → List ℕ
part height d from to width =
    codes "<svg x='" ++ decimal to ++ codes "' y='" ++ decimal (strip_top height d) ++ codes "' width='" ++ decimal width ++ codes "' height='"
    ++ decimal (strip_height height) ++ codes "' viewBox='" ++ decimal from ++ codes " " ++ decimal ABOVE ++ codes " " ++ decimal width ++ codes " "
    ++ decimal (strip_height height) ++ (codes "'><use href='#all'/></svg>" ++ newline)

-- the strip of a day: the names, and that day beside them
abbrev pub strip : ℕ → ℕ → List (List ℕ)
strip height d = part height d 0 0 LEFT ∷ part height d (LEFT + d * DAY_WIDTH) LEFT DAY_WIDTH ∷ []

-- the strips of so many days
abbrev pub strips : ℕ → ℕ → List (List ℕ)
strips height zero = []
strips height (suc n) = strips height n ++ strip height n

-- the end of what they show parts of, and the strips
abbrev pub strip_lines : ℕ → ℕ → List (List ℕ)
strip_lines height days = whole_close ∷ strips height days
