-- A strip for each day on which a shortage lies, one below the other. For src/strips.rt.
use Rattle.std.specs.Prelude.{ℕ, zero, suc, ◌+◌, ◌*◌, List, [], ◌∷◌, ◌++◌}
use Rattle.plan_picture.specs.Fixed.{whole_close}
use Rattle.plan_picture.specs.Strips.{part}
use Rattle.plan_picture.specs.declared.layout.TheConstants.{LEFT, DAY_WIDTH}

-- the strip of number i, which shows day d: the names, and that day beside them
abbrev pub day_strip : ℕ → ℕ → ℕ → List (List ℕ)
day_strip height i d = part height i 0 0 LEFT ∷ part height i (LEFT + d * DAY_WIDTH) LEFT DAY_WIDTH ∷ []

-- the strips of so many days from a day on
abbrev pub day_strips : ℕ → ℕ → ℕ → List (List ℕ)
day_strips height from zero = []
day_strips height from (suc n) = day_strips height from n ++ day_strip height n (from + n)

-- the end of what they show parts of, and the strips
abbrev pub strip_lines : ℕ → ℕ → ℕ → List (List ℕ)
strip_lines height from days = whole_close ∷ day_strips height from days
