-- What is printed where the words are refused.
use Rattle.std.specs.Prelude.{ℕ, List, ◌++◌, codes}
use Rattle.plan_report.specs.Lines.{newline}

-- the words that the program takes
abbrev pub usage_line : List ℕ
usage_line = codes "usage: tailview TIMETABLE FLEET RULES --plan FILE [--moved OLDPLAN] [--curfews AIRPORT] [--by-day] [--html]" ++ newline

-- the same, where they ask for the picture of a shortage
abbrev pub shortage_usage_line : List ℕ
shortage_usage_line = codes "usage: tailview --shortage FILE TIMETABLE FLEET RULES [--curfews AIRPORT] [--html]" ++ newline
