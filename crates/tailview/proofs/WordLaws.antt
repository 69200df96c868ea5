-- What the words mean, whatever the names are. The reading computes for names that are not known: a value behind an
-- equals sign and names behind two dashes are taken unseen, and other names only have to begin with no dash.
use Rattle.std.proofs.Common.{ℕ, false, List, Option, Some, None, refl}
use Rattle.clap.proofs.OnLiterals.{clap_on_literals}
use Rattle.run_frame.specs.inside.PlanWords.{ReadsAnyNames}
use Rattle.tailview.specs.Texts.{ViewNamesSeen}
use Rattle.tailview.specs.Words.{names_of}

-- the words name these files
abbrev pub named : List ℕ → List ℕ → List ℕ → List ℕ → Option ViewNamesSeen
named timetable fleet rules plan = Some (record { tables = record { timetable = timetable; fleet = fleet; rules = rules }; plan = plan; before = None; airport = None; by_day = false; html = false })

-- a plan is named as by each program that judges one
plans : ReadsAnyNames names_of named
unfolding clap_on_literals names_of
plans = record {
  any_program = λ one other words. refl;
  any_names = λ program timetable fleet rules plan. refl;
  no_fourth = λ program plan one two three four rest. refl;
  plain_names = λ program timetable fleet rules plan t f r et ef er. rw (et, et, ef, ef, er, er) refl;
  option_wanted = λ program timetable fleet rules. refl;
}
