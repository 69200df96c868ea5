-- The reading of the words: the program's name, the names of three tables and those of plans' files, and what is shown.
use Rattle.std.specs.Prelude.{ℕ, List, codes, nat_lt, Option, Some, option_and_then, option_map}
use Rattle.clap.specs.Words.{App, Row, Rule, count_of, first_of, new_rule, with_rule}
use Rattle.clap.specs.declared.builder.action.ArgAction.TheVariants.{Count}
use Rattle.run_frame.specs.Words.{matched, optional, required_option, tables_command, tables_in}
use Rattle.tailview.specs.Texts.{ViewNamesSeen}

-- an option that may be given, without a value
abbrev pub flag : List ℕ → Rule
flag id = record (new_rule id) { long = Some id; action = Some Count }

-- three places and an option that has to be given
abbrev pub with_plan : App
with_plan = with_rule (tables_command (codes "tailview")) (required_option (codes "plan"))

-- and one that may be
abbrev pub with_moved : App
with_moved = with_rule with_plan (optional (codes "moved"))

-- and one more
abbrev pub with_curfews : App
with_curfews = with_rule with_moved (optional (codes "curfews"))

-- these, and a flag
abbrev pub with_by_day : App
with_by_day = with_rule with_curfews (flag (codes "by-day"))

-- the command: these, and one more
abbrev pub command : App
command = with_rule with_by_day (flag (codes "html"))

-- the names among what the command matched
abbrev pub names_in : List Row → Option ViewNamesSeen
names_in rows =
    option_and_then (λ tables. option_map (λ plan.
    record {
      tables = tables;
      plan = plan;
      before = first_of (codes "moved") rows;
      airport = first_of (codes "curfews") rows;
      by_day = nat_lt 0 (count_of (codes "by-day") rows);
      html = nat_lt 0 (count_of (codes "html") rows);
    })
    (first_of (codes "plan") rows))
    (tables_in rows)

-- the names that the words give; words that the command refuses give none
unfoldable pub names_of : List (List ℕ) → Option ViewNamesSeen
names_of words = option_and_then names_in (matched command words)
