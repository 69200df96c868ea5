-- What the words mean, whatever the names are. The reading computes for names that are not known: behind two dashes
-- nothing of them is looked at, and without these only that the first sign is no dash. Four cases are left to tests: the
-- first name may ask for a trial, for a repair, why no plan is legal, or for quotas.
use Rattle.std.proofs.Common.{Bool, true, false, ◌||◌, ◌==◌, ◌≡◌, ◌∙◌, ℕ, List, [], ◌∷◌, bytes_eq, Option, Some, None, codes, if◌then◌else◌, refl, sym, ap}
use Rattle.std.specs.Prelude.{option_and_then}
use Rattle.clap.proofs.OnLiterals.{clap_on_literals}
use Rattle.clap.specs.Words.{App, Row}
use Rattle.branch_tree.specs.declared.limit.Limit.TheVariants.{Free}
use Rattle.cert_lines.specs.declared.version.Version.TheVariants.{Full}
use Rattle.certified_search.specs.declared.order.Order.TheVariants.{DepthFirst}
use Rattle.run_frame.specs.Words.{matched}
use Rattle.tailplan.specs.QuotaWords.{is_quota}
use Rattle.tailplan.specs.RepairWords.{is_repair}
use Rattle.tailplan.specs.Tasks.{TaskNamesSeen}
use Rattle.tailplan.specs.WhyWords.{is_why}
use Rattle.tailplan.specs.Words.{command, is_trial, names_in, run_of}

-- the words name these files, no limit, no order but the usual one, and no certificate's file
abbrev pub named : List ℕ → List ℕ → List ℕ → Option TaskNamesSeen
named timetable fleet rules = Some (record { tables = record { timetable = timetable; fleet = fleet; rules = rules }; limit = Free; order = DepthFirst; version = Full; cert = None })

-- the program's name does not matter
whatever_it_is_called : (one other : List ℕ) (words : List (List ℕ)) → run_of (one ∷ words) ≡ run_of (other ∷ words)
unfolding run_of
whatever_it_is_called one other [] = refl
whatever_it_is_called one other (word ∷ words) = refl

-- behind two dashes any three words are the names
any_names : (program timetable fleet rules : List ℕ) → run_of (program ∷ codes "--" ∷ timetable ∷ fleet ∷ rules ∷ []) ≡ named timetable fleet rules
unfolding clap_on_literals run_of
any_names program timetable fleet rules = refl

-- and more than three are too many
any_four : (program one two three four : List ℕ) (rest : List (List ℕ)) → run_of (program ∷ codes "--" ∷ one ∷ two ∷ three ∷ four ∷ rest) ≡ None
unfolding clap_on_literals run_of
any_four program one two three four rest = refl

-- without them, three words are matched as the names where each begins with another sign than a dash
plain_matched : (program timetable fleet rules_file : List ℕ) (t f r : ℕ) → (t == 45) ≡ false → (f == 45) ≡ false → (r == 45) ≡ false
    → option_and_then names_in (matched command (program ∷ (t ∷ timetable) ∷ (f ∷ fleet) ∷ (r ∷ rules_file) ∷ [])) ≡ named (t ∷ timetable) (f ∷ fleet) (r ∷ rules_file)
unfolding clap_on_literals
plain_matched program timetable fleet rules_file t f r et ef er = rw (et, et, ef, ef, er, er) refl

not_asked : (trial repair why quota : Bool) (names : Option TaskNamesSeen) → trial ≡ false → repair ≡ false → why ≡ false → quota ≡ false
    → (if trial || (repair || (why || quota)) then None else names) ≡ names
not_asked true repair why quota names is other third fourth = absurd (cc is)
not_asked false true why quota names is other third fourth = absurd (cc other)
not_asked false false true quota names is other third fourth = absurd (cc third)
not_asked false false false true names is other third fourth = absurd (cc fourth)
not_asked false false false false names is other third fourth = refl

-- what the command matched gives the names, where nothing else is asked for
pub names_given : (words : List (List ℕ)) (app : App) (given : Option (List Row)) (rows : List Row) → is_trial words ≡ false → is_repair words ≡ false → is_why words ≡ false
    → is_quota words ≡ false → app ≡ command → given ≡ matched app words → given ≡ Some rows → run_of words ≡ names_in rows
unfolding run_of
names_given words app given rows no_trial no_repair no_why no_quota same told some =
    not_asked (is_trial words) (is_repair words) (is_why words) (is_quota words) (option_and_then names_in (matched command words)) no_trial no_repair no_why no_quota
    ∙ ap (λ (found : Option (List Row)). option_and_then names_in found) (ap (λ (one : App). matched one words) (sym same) ∙ sym told ∙ some)

-- and they are the names where the first asks for nothing else
plain_names : (program timetable fleet rules_file : List ℕ) (t f r : ℕ) → (t == 45) ≡ false → (f == 45) ≡ false → (r == 45) ≡ false
    → bytes_eq (t ∷ timetable) (codes "trial") ≡ false → bytes_eq (t ∷ timetable) (codes "repair") ≡ false
    → bytes_eq (t ∷ timetable) (codes "why") ≡ false → bytes_eq (t ∷ timetable) (codes "quota") ≡ false
    → run_of (program ∷ (t ∷ timetable) ∷ (f ∷ fleet) ∷ (r ∷ rules_file) ∷ []) ≡ named (t ∷ timetable) (f ∷ fleet) (r ∷ rules_file)
unfolding run_of
plain_names program timetable fleet rules_file t f r et ef er no_trial no_repair no_why no_quota =
    let words = program ∷ (t ∷ timetable) ∷ (f ∷ fleet) ∷ (r ∷ rules_file) ∷ [] in
    not_asked (is_trial words) (is_repair words) (is_why words) (is_quota words) (option_and_then names_in (matched command words)) no_trial no_repair no_why no_quota ∙ plain_matched program timetable fleet rules_file t f r et ef er
