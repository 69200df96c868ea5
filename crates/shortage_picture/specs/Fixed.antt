-- The lines of a shortage's picture that are always the same, beside those of every picture. For src/fixed.rt.
use Rattle.std.specs.Prelude.{ℕ, List, ◌++◌, codes}
use Rattle.plan_report.specs.Lines.{newline}

-- the colour of brought activities; it stands behind the other colours, so it covers theirs
abbrev pub brought_style : List ℕ
brought_style = codes "<style>.brought .flight rect,.brought .ground rect{fill:#44aa99}</style>" ++ newline

-- around the brought activities
abbrev pub brought_open : List ℕ
brought_open = codes "<g class='brought'>" ++ newline

-- and its end
abbrev pub brought_close : List ℕ
brought_close = codes "</g>" ++ newline
