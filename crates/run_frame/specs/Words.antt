-- The reading of the words: a program's name and the names of three tables, as `clap` reads one simple command.
use Rattle.std.specs.Prelude.{ℕ, Bool, true, List, codes, length, ◌==◌, Option, Some, None, option_and_then, option_map, if◌then◌else◌}
use Rattle.clap.specs.Words.{App, Row, Rule, fault_of, first_of, matches_of, new_app, new_rule, with_rule}
use Rattle.clap.specs.Simple.{on_top}
use Rattle.run_frame.specs.Tables.{NamesSeen}

-- a word that has to stand in its place
abbrev pub required_place : List ℕ → Rule
required_place id = record (new_rule id) { required = true }

-- an option that may be given, once and with one value
abbrev pub optional : List ℕ → Rule
optional id = record (new_rule id) { long = Some id }

-- one that has to be given
abbrev pub required_option : List ℕ → Rule
required_option id = record (new_rule id) { long = Some id; required = true }

-- the bare command of a program: without a flag for help, and without one for a version, since it has none
abbrev pub bare_command : List ℕ → App
bare_command program = on_top (λ s. record s { disable_help_flag = true }) (new_app program)

-- the command with three places
abbrev pub tables_command : List ℕ → App
tables_command program = with_rule (with_rule (with_rule (bare_command program)
    (required_place (codes "timetable"))) (required_place (codes "fleet"))) (required_place (codes "rules"))

-- the command takes the words: no step of the reading fails
abbrev pub is_taken : App → List (List ℕ) → Bool
is_taken command words = length (fault_of command words) == 0

-- what the command matches of the words; words that it refuses give nothing
abbrev pub matched : App → List (List ℕ) → Option (List Row)
matched command words = if is_taken command words then Some (matches_of command words) else None

-- the names of the tables among what was matched
abbrev pub tables_in : List Row → Option NamesSeen
tables_in rows =
    option_and_then (λ timetable. option_and_then (λ fleet. option_map (λ rules.
    record { timetable = timetable; fleet = fleet; rules = rules })
    (first_of (codes "rules") rows)) (first_of (codes "fleet") rows)) (first_of (codes "timetable") rows)
