-- What is printed where a table is refused: the refusal's code, the table, and the place in it.
use Rattle.std.specs.Prelude.{ℕ, List, ◌++◌, codes, decimal}
use Rattle.tail_text.specs.declared.refusal.Refusal.{Refusal}
use Rattle.tail_text.specs.declared.refusal.Table.{Table}
use Rattle.tail_text.specs.declared.refusal.Table.TheVariants.{Timetable, Fleet, Rules, Plan}
use Rattle.plan_report.specs.Lines.{newline}

-- how a table is called
abbrev pub table_name : Table → List ℕ
table_name Timetable = codes "timetable"
table_name Fleet = codes "fleet"
table_name Rules = codes "rules"
table_name Plan = codes "plan"

-- the refusal's code, its table and its place
abbrev pub refusal_line : Refusal → List ℕ
refusal_line refusal = codes "refused " ++ decimal refusal.code ++ codes " " ++ table_name refusal.table ++ codes " " ++ decimal refusal.place ++ newline
