-- What the words mean, at command lines that are written out. The rows show a plan's name in each way to write it, as
-- every program takes it, then a plan before, an airport, strips by day and a page on request, and that an option twice, without its value or unknown
-- is refused.
use Rattle.std.proofs.Common.{◌≡◌, ℕ, Bool, true, false, List, [], ◌∷◌, Option, Some, None, codes, refl}
use Rattle.clap.proofs.OnLiterals.{clap_on_literals}
use Rattle.run_frame.specs.inside.PlanWords.{ReadsPlans}
use Rattle.tailview.specs.Texts.{ViewNamesSeen}
use Rattle.tailview.proofs.WordLaws.{named}
use Rattle.tailview.specs.Words.{names_of}

-- a plan is named as by each program that judges one
plans : ReadsPlans (codes "tailview") names_of named
unfolding clap_on_literals names_of
plans = record {
  no_words = (refl, refl);
  option_anywhere = (refl, refl, refl, refl, refl, refl);
  any_program = (refl, refl);
  other_counts = (refl, refl, refl, refl, refl);
  option_once = (refl, refl, refl, refl, refl, refl);
  option_written_out = (refl, refl, refl, refl);
  odd_names = (refl, refl, refl, refl);
  dash_in_front = (refl, refl, refl, refl, refl, refl);
  behind_two_dashes = (refl, refl, refl, refl, refl);
  no_help = (refl, refl, refl, refl, refl);
}

-- the words after the program's name
abbrev after_name : List (List ℕ) → Option ViewNamesSeen
after_name words = names_of (codes "tailview" ∷ words)

-- no other option is taken, in place of the plan's or beside it
no_other_options : (after_name (codes "t" ∷ codes "f" ∷ codes "r" ∷ codes "--cert" ∷ codes "c" ∷ []) ≡ None)
    × (after_name (codes "t" ∷ codes "f" ∷ codes "r" ∷ codes "--cert=c" ∷ []) ≡ None)
    × (after_name (codes "t" ∷ codes "f" ∷ codes "r" ∷ codes "--plan" ∷ codes "p" ∷ codes "--cert" ∷ codes "c" ∷ []) ≡ None)
    × (after_name (codes "t" ∷ codes "f" ∷ codes "r" ∷ codes "--plan" ∷ codes "p" ∷ codes "--nodes" ∷ codes "5" ∷ []) ≡ None)
unfolding clap_on_literals names_of
no_other_options = (refl, refl, refl, refl)

-- the words name these tables, this plan and an airport, and ask for a page
abbrev with_more : Option ViewNamesSeen
with_more = Some (record { tables = record { timetable = codes "t"; fleet = codes "f"; rules = codes "r" }; plan = codes "p"; before = None; airport = Some (codes "ARN"); by_day = false; html = true })

-- an airport and a page can be asked for anywhere; an airport once and with a value, and a page without one
more_on_request : (after_name (codes "t" ∷ codes "f" ∷ codes "r" ∷ codes "--plan" ∷ codes "p" ∷ codes "--curfews" ∷ codes "ARN" ∷ codes "--html" ∷ []) ≡ with_more)
    × (after_name (codes "--html" ∷ codes "--curfews=ARN" ∷ codes "t" ∷ codes "f" ∷ codes "r" ∷ codes "--plan" ∷ codes "p" ∷ []) ≡ with_more)
    × (after_name (codes "t" ∷ codes "f" ∷ codes "r" ∷ codes "--plan" ∷ codes "p" ∷ codes "--curfews" ∷ []) ≡ None)
    × (after_name (codes "t" ∷ codes "f" ∷ codes "r" ∷ codes "--plan" ∷ codes "p" ∷ codes "--curfews" ∷ codes "A" ∷ codes "--curfews" ∷ codes "B" ∷ []) ≡ None)
    × (after_name (codes "t" ∷ codes "f" ∷ codes "r" ∷ codes "--plan" ∷ codes "p" ∷ codes "--html=x" ∷ []) ≡ None)
unfolding clap_on_literals names_of
more_on_request = (refl, refl, refl, refl, refl)

-- the words name these tables and this plan, and ask for a strip for each day
abbrev with_strips : Bool → Option ViewNamesSeen
with_strips html = Some (record {
  tables = record { timetable = codes "t"; fleet = codes "f"; rules = codes "r" };
  plan = codes "p";
  before = None;
  airport = None;
  by_day = true;
  html = html;
})

-- a strip for each day can be asked for anywhere, and more than once, without a value
strips_on_request : (after_name (codes "t" ∷ codes "f" ∷ codes "r" ∷ codes "--plan" ∷ codes "p" ∷ codes "--by-day" ∷ []) ≡ with_strips false)
    × (after_name (codes "--by-day" ∷ codes "t" ∷ codes "f" ∷ codes "r" ∷ codes "--plan" ∷ codes "p" ∷ codes "--html" ∷ []) ≡ with_strips true)
    × (after_name (codes "--by-day" ∷ codes "t" ∷ codes "f" ∷ codes "r" ∷ codes "--by-day" ∷ codes "--plan" ∷ codes "p" ∷ []) ≡ with_strips false)
    × (after_name (codes "t" ∷ codes "f" ∷ codes "r" ∷ codes "--plan" ∷ codes "p" ∷ codes "--by-day=1" ∷ []) ≡ None)
    × (after_name (codes "t" ∷ codes "f" ∷ codes "r" ∷ codes "--plan" ∷ codes "p" ∷ codes "--by-days" ∷ []) ≡ None)
unfolding clap_on_literals names_of
strips_on_request = (refl, refl, refl, refl, refl)

-- the words name these tables, this plan and one that was published before
abbrev with_before : List ℕ → Option ViewNamesSeen
with_before name = Some (record {
  tables = record { timetable = codes "t"; fleet = codes "f"; rules = codes "r" };
  plan = codes "p";
  before = Some name;
  airport = None;
  by_day = false;
  html = false;
})

-- a plan that was published before can be named anywhere, once and with a name, and not in place of the plan
before_on_request : (after_name (codes "t" ∷ codes "f" ∷ codes "r" ∷ codes "--plan" ∷ codes "p" ∷ codes "--moved" ∷ codes "o" ∷ []) ≡ with_before (codes "o"))
    × (after_name (codes "--moved=-o" ∷ codes "t" ∷ codes "f" ∷ codes "r" ∷ codes "--plan" ∷ codes "p" ∷ []) ≡ with_before (codes "-o"))
    × (after_name (codes "t" ∷ codes "f" ∷ codes "r" ∷ codes "--moved" ∷ codes "p" ∷ codes "--plan" ∷ codes "p" ∷ []) ≡ with_before (codes "p"))
    × (after_name (codes "t" ∷ codes "f" ∷ codes "r" ∷ codes "--plan" ∷ codes "p" ∷ codes "--moved" ∷ []) ≡ None)
    × (after_name (codes "t" ∷ codes "f" ∷ codes "r" ∷ codes "--plan" ∷ codes "p" ∷ codes "--moved=o" ∷ codes "--moved=o" ∷ []) ≡ None)
    × (after_name (codes "t" ∷ codes "f" ∷ codes "r" ∷ codes "--moved" ∷ codes "o" ∷ []) ≡ None)
unfolding clap_on_literals names_of
before_on_request = (refl, refl, refl, refl, refl, refl)
