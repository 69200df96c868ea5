-- What is printed where the words are refused.
use Rattle.std.specs.Prelude.{ℕ, List, ◌++◌, codes}
use Rattle.plan_report.specs.Lines.{newline}

-- the words that the program takes
abbrev pub usage_line : List ℕ
usage_line = codes "usage: tailplan TIMETABLE FLEET RULES [--nodes N] [--cert FILE [--lean]] [--best]" ++ newline

-- the words of a repair
abbrev pub repair_usage_line : List ℕ
repair_usage_line = codes "usage: tailplan repair TIMETABLE FLEET RULES PLAN" ++ newline

-- the words that ask why no plan is legal
abbrev pub why_usage_line : List ℕ
why_usage_line = codes "usage: tailplan why TIMETABLE FLEET RULES" ++ newline

-- the words of a run under quotas
abbrev pub quota_usage_line : List ℕ
quota_usage_line = codes "usage: tailplan quota TIMETABLE FLEET RULES QUOTAS" ++ newline
