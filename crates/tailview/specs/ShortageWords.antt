-- The words that ask for the picture of a shortage: its file stands behind the program's name, and then the names of three tables. For
-- src/shortage_words.rt.
use Rattle.std.specs.Prelude.{ℕ, Bool, false, List, [], ◌∷◌, bytes_eq, codes, nat_lt, Option, option_and_then, option_map, take}
use Rattle.clap.specs.Words.{App, Row, count_of, first_of, with_rule}
use Rattle.run_frame.specs.Words.{matched, optional, required_option, tables_command, tables_in}
use Rattle.tailview.specs.ShortageTexts.{ShortageNamesSeen}
use Rattle.tailview.specs.Words.{flag}

-- the word behind the program's name begins as the option of a shortage's file
abbrev pub is_shortage : List (List ℕ) → Bool
is_shortage [] = false
is_shortage (program ∷ []) = false
is_shortage (program ∷ word ∷ rest) = bytes_eq (take 10 word) (codes "--shortage")

-- three places and an option that has to be given
abbrev pub with_shortage : App
with_shortage = with_rule (tables_command (codes "tailview")) (required_option (codes "shortage"))

-- and one that may be
abbrev pub with_shortage_curfews : App
with_shortage_curfews = with_rule with_shortage (optional (codes "curfews"))

-- the command: these, and a flag
abbrev pub shortage_command : App
shortage_command = with_rule with_shortage_curfews (flag (codes "html"))

-- the names among what the command matched
abbrev pub shortage_names_in : List Row → Option ShortageNamesSeen
shortage_names_in rows =
    option_and_then (λ tables. option_map (λ told.
    record {
      tables = tables;
      told = told;
      airport = first_of (codes "curfews") rows;
      html = nat_lt 0 (count_of (codes "html") rows);
    })
    (first_of (codes "shortage") rows))
    (tables_in rows)

-- the names that the words give; words that the command refuses give none
unfoldable pub shortage_of : List (List ℕ) → Option ShortageNamesSeen
shortage_of words = option_and_then shortage_names_in (matched shortage_command words)
