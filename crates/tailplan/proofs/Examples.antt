-- What the words mean, at command lines that are written out. The rows show the three names in their order, the two
-- options in each way to write them, the flags, a trial, a question why no plan is legal, quotas, and what is refused: too few words or too many, a dash in
-- front, a limit that is no number, an option or a flag twice, a flag with a value, a lean certificate without its file, and any
-- other option.
use Rattle.std.proofs.Common.{◌≡◌, ℕ, List, [], ◌∷◌, Option, Some, None, codes, refl}
use Rattle.clap.proofs.OnLiterals.{clap_on_literals}
use Rattle.branch_tree.specs.declared.limit.Limit.TheVariants.{Free, Nodes}
use Rattle.cert_lines.specs.declared.version.Version.TheVariants.{Full, Lean}
use Rattle.certified_search.specs.declared.order.Order.TheVariants.{DepthFirst, LeastBound}
use Rattle.run_frame.specs.Tables.{NamesSeen}
use Rattle.tailplan.proofs.WordLaws.{named}
use Rattle.tailplan.specs.FourTexts.{FourNamesSeen}
use Rattle.tailplan.specs.QuotaWords.{quota_of}
use Rattle.tailplan.specs.Tasks.{TaskNamesSeen}
use Rattle.tailplan.specs.WhyWords.{why_of}
use Rattle.tailplan.specs.Words.{run_of, seed_of}

-- the words after the program's name
abbrev after_name : List (List ℕ) → Option TaskNamesSeen
after_name words = run_of (codes "tailplan" ∷ words)

-- the tables `t`, `f` and `r`
abbrev t_f_r : NamesSeen
t_f_r = record { timetable = codes "t"; fleet = codes "f"; rules = codes "r" }

-- they name the tables `t`, `f` and `r`, and this limit
abbrev limited : ℕ → Option TaskNamesSeen
limited most = Some (record { tables = t_f_r; limit = Nodes most; order = DepthFirst; version = Full; cert = None })

-- they name the tables `t`, `f` and `r`, and this file for the certificate
abbrev certified : List ℕ → Option TaskNamesSeen
certified cert = Some (record { tables = t_f_r; limit = Free; order = DepthFirst; version = Full; cert = Some cert })

-- they name the tables `t`, `f` and `r`, and ask for the least bound
abbrev by_least_bound : Option TaskNamesSeen
by_least_bound = Some (record { tables = t_f_r; limit = Free; order = LeastBound; version = Full; cert = None })

-- they ask for all that may be asked for
abbrev with_all : Option TaskNamesSeen
with_all = Some (record { tables = t_f_r; limit = Nodes 5; order = LeastBound; version = Lean; cert = Some (codes "c") })

-- they name the tables `t`, `f` and `r`, and a file for a lean certificate
abbrev lean : Option TaskNamesSeen
lean = Some (record { tables = t_f_r; limit = Free; order = DepthFirst; version = Lean; cert = Some (codes "c") })

-- no words at all, or the program's name alone, give no names
no_words : (run_of [] ≡ None) × (after_name [] ≡ None)
unfolding clap_on_literals run_of
no_words = (refl, refl)

-- three names are taken in their order, whatever the program is called
three_names : (after_name (codes "t" ∷ codes "f" ∷ codes "r" ∷ []) ≡ named (codes "t") (codes "f") (codes "r"))
    × (run_of (codes "" ∷ codes "t" ∷ codes "f" ∷ codes "r" ∷ []) ≡ named (codes "t") (codes "f") (codes "r"))
    × (run_of (codes "--help" ∷ codes "t" ∷ codes "f" ∷ codes "r" ∷ []) ≡ named (codes "t") (codes "f") (codes "r"))
    × (after_name (codes "x" ∷ codes "x" ∷ codes "x" ∷ []) ≡ named (codes "x") (codes "x") (codes "x"))
unfolding clap_on_literals run_of
three_names = (refl, refl, refl, refl)

-- one or two names are too few, and four are too many
other_counts : (after_name (codes "t" ∷ []) ≡ None)
    × (after_name (codes "t" ∷ codes "f" ∷ []) ≡ None)
    × (after_name (codes "t" ∷ codes "f" ∷ codes "r" ∷ codes "x" ∷ []) ≡ None)
    × (after_name (codes "t" ∷ codes "f" ∷ codes "r" ∷ codes "" ∷ []) ≡ None)
unfolding clap_on_literals run_of
other_counts = (refl, refl, refl, refl)

-- an empty word, a dash alone, a path and the word help are names like others
odd_names : (after_name (codes "" ∷ codes "" ∷ codes "" ∷ []) ≡ named (codes "") (codes "") (codes ""))
    × (after_name (codes "-" ∷ codes "f" ∷ codes "-" ∷ []) ≡ named (codes "-") (codes "f") (codes "-"))
    × (after_name (codes "./t.csv" ∷ codes "a b" ∷ codes "r=1" ∷ []) ≡ named (codes "./t.csv") (codes "a b") (codes "r=1"))
    × (after_name (codes "help" ∷ codes "f" ∷ codes "r" ∷ []) ≡ named (codes "help") (codes "f") (codes "r"))
unfolding clap_on_literals run_of
odd_names = (refl, refl, refl, refl)

-- a name that begins with a dash is refused
dash_in_front : (after_name (codes "-t" ∷ codes "f" ∷ codes "r" ∷ []) ≡ None)
    × (after_name (codes "t" ∷ codes "f" ∷ codes "-5" ∷ []) ≡ None)
    × (after_name (codes "t" ∷ codes "--f" ∷ codes "r" ∷ []) ≡ None)
    × (after_name (codes "t" ∷ codes "f" ∷ codes "r" ∷ codes "-x" ∷ []) ≡ None)
unfolding clap_on_literals run_of
dash_in_front = (refl, refl, refl, refl)

-- behind two dashes each word is a name, a dash in front or not
behind_two_dashes : (after_name (codes "--" ∷ codes "t" ∷ codes "f" ∷ codes "r" ∷ []) ≡ named (codes "t") (codes "f") (codes "r"))
    × (after_name (codes "--" ∷ codes "-t" ∷ codes "--help" ∷ codes "-" ∷ []) ≡ named (codes "-t") (codes "--help") (codes "-"))
    × (after_name (codes "t" ∷ codes "--" ∷ codes "f" ∷ codes "--nodes" ∷ []) ≡ named (codes "t") (codes "f") (codes "--nodes"))
    × (after_name (codes "--" ∷ codes "--" ∷ codes "f" ∷ codes "r" ∷ []) ≡ named (codes "--") (codes "f") (codes "r"))
    × (after_name (codes "t" ∷ codes "f" ∷ codes "r" ∷ codes "--" ∷ []) ≡ named (codes "t") (codes "f") (codes "r"))
    × (after_name (codes "t" ∷ codes "f" ∷ codes "r" ∷ codes "--" ∷ codes "x" ∷ []) ≡ None)
    × (after_name (codes "--" ∷ []) ≡ None)
unfolding clap_on_literals run_of
behind_two_dashes = (refl, refl, refl, refl, refl, refl, refl)

-- there is no flag for help or for the version, alone or beside the names
no_help : (after_name (codes "--help" ∷ []) ≡ None)
    × (after_name (codes "-h" ∷ []) ≡ None)
    × (after_name (codes "--version" ∷ []) ≡ None)
    × (after_name (codes "-V" ∷ []) ≡ None)
    × (after_name (codes "t" ∷ codes "f" ∷ codes "r" ∷ codes "--help" ∷ []) ≡ None)
    × (after_name (codes "-h" ∷ codes "t" ∷ codes "f" ∷ codes "r" ∷ []) ≡ None)
    × (after_name (codes "t" ∷ codes "f" ∷ codes "r" ∷ codes "--version" ∷ []) ≡ None)
unfolding clap_on_literals run_of
no_help = (refl, refl, refl, refl, refl, refl, refl)

-- a limit is a number, wherever it stands and in either way that it is written
limits : (after_name (codes "t" ∷ codes "f" ∷ codes "r" ∷ codes "--nodes" ∷ codes "5" ∷ []) ≡ limited 5)
    × (after_name (codes "--nodes=5" ∷ codes "t" ∷ codes "f" ∷ codes "r" ∷ []) ≡ limited 5)
    × (after_name (codes "t" ∷ codes "--nodes" ∷ codes "0" ∷ codes "f" ∷ codes "r" ∷ []) ≡ limited 0)
unfolding clap_on_literals run_of
limits = (refl, refl, refl)

-- it stands once, with a value that is a number with no zero in front
no_limits : (after_name (codes "t" ∷ codes "f" ∷ codes "r" ∷ codes "--nodes" ∷ []) ≡ None)
    × (after_name (codes "t" ∷ codes "f" ∷ codes "r" ∷ codes "--nodes" ∷ codes "5" ∷ codes "--nodes" ∷ codes "5" ∷ []) ≡ None)
    × (after_name (codes "t" ∷ codes "f" ∷ codes "r" ∷ codes "--nodes=05" ∷ []) ≡ None)
    × (after_name (codes "t" ∷ codes "f" ∷ codes "r" ∷ codes "--nodes=-5" ∷ []) ≡ None)
    × (after_name (codes "t" ∷ codes "f" ∷ codes "r" ∷ codes "--nodes=" ∷ []) ≡ None)
unfolding clap_on_literals run_of
no_limits = (refl, refl, refl, refl, refl)

-- any text names the certificate's file, wherever it stands and in either way that it is written
certificates : (after_name (codes "t" ∷ codes "--cert" ∷ codes "c" ∷ codes "f" ∷ codes "r" ∷ []) ≡ certified (codes "c"))
    × (after_name (codes "t" ∷ codes "f" ∷ codes "r" ∷ codes "--cert=c" ∷ []) ≡ certified (codes "c"))
    × (after_name (codes "t" ∷ codes "f" ∷ codes "r" ∷ codes "--cert=" ∷ []) ≡ certified (codes ""))
unfolding clap_on_literals run_of
certificates = (refl, refl, refl)

-- the flag stands anywhere in front of two dashes, alone or beside the options
least_bounds : (after_name (codes "t" ∷ codes "f" ∷ codes "r" ∷ codes "--best" ∷ []) ≡ by_least_bound)
    × (after_name (codes "--best" ∷ codes "t" ∷ codes "f" ∷ codes "r" ∷ []) ≡ by_least_bound)
    × (after_name (codes "t" ∷ codes "--nodes" ∷ codes "5" ∷ codes "--best" ∷ codes "f" ∷ codes "--cert=c" ∷ codes "--lean" ∷ codes "r" ∷ []) ≡ with_all)
    × (after_name (codes "t" ∷ codes "f" ∷ codes "--" ∷ codes "--best" ∷ []) ≡ named (codes "t") (codes "f") (codes "--best"))
unfolding clap_on_literals run_of
least_bounds = (refl, refl, refl, refl)

-- it stands once, in full, and without a value
no_least_bounds : (after_name (codes "t" ∷ codes "f" ∷ codes "r" ∷ codes "--best" ∷ codes "--best" ∷ []) ≡ None)
    × (after_name (codes "t" ∷ codes "f" ∷ codes "r" ∷ codes "--best=1" ∷ []) ≡ None)
    × (after_name (codes "t" ∷ codes "f" ∷ codes "r" ∷ codes "--best=" ∷ []) ≡ None)
    × (after_name (codes "t" ∷ codes "f" ∷ codes "r" ∷ codes "--best" ∷ codes "true" ∷ []) ≡ None)
    × (after_name (codes "t" ∷ codes "f" ∷ codes "r" ∷ codes "--bes" ∷ []) ≡ None)
    × (after_name (codes "t" ∷ codes "f" ∷ codes "r" ∷ codes "-b" ∷ []) ≡ None)
unfolding clap_on_literals run_of
no_least_bounds = (refl, refl, refl, refl, refl, refl)

-- a lean certificate is asked for beside its file, in any order
lean_certificates : (after_name (codes "t" ∷ codes "f" ∷ codes "r" ∷ codes "--cert" ∷ codes "c" ∷ codes "--lean" ∷ []) ≡ lean)
    × (after_name (codes "--lean" ∷ codes "t" ∷ codes "f" ∷ codes "--cert=c" ∷ codes "r" ∷ []) ≡ lean)
    × (after_name (codes "t" ∷ codes "f" ∷ codes "--" ∷ codes "--lean" ∷ []) ≡ named (codes "t") (codes "f") (codes "--lean"))
unfolding clap_on_literals run_of
lean_certificates = (refl, refl, refl)

-- it is refused without a certificate, twice, and with a value
no_lean_certificates : (after_name (codes "t" ∷ codes "f" ∷ codes "r" ∷ codes "--lean" ∷ []) ≡ None)
    × (after_name (codes "t" ∷ codes "f" ∷ codes "r" ∷ codes "--cert" ∷ codes "--lean" ∷ []) ≡ None)
    × (after_name (codes "t" ∷ codes "f" ∷ codes "r" ∷ codes "--cert=c" ∷ codes "--lean" ∷ codes "--lean" ∷ []) ≡ None)
    × (after_name (codes "t" ∷ codes "f" ∷ codes "r" ∷ codes "--cert=c" ∷ codes "--lean=1" ∷ []) ≡ None)
unfolding clap_on_literals run_of
no_lean_certificates = (refl, refl, refl, refl)

-- no other option is taken, in whatever way it is written, and none without its value
no_options : (after_name (codes "t" ∷ codes "f" ∷ codes "r" ∷ codes "--cert" ∷ []) ≡ None)
    × (after_name (codes "--cert" ∷ codes "t" ∷ codes "f" ∷ codes "r" ∷ []) ≡ None)
    × (after_name (codes "t" ∷ codes "f" ∷ codes "r" ∷ codes "--rules=x" ∷ []) ≡ None)
unfolding clap_on_literals run_of
no_options = (refl, refl, refl)

-- behind the word for a trial stands a seed alone, and no tables; a timetable of that name is written as a path
trials : (seed_of (codes "tailplan" ∷ codes "trial" ∷ codes "0" ∷ []) ≡ Some 0)
    × (seed_of (codes "tailplan" ∷ codes "trial" ∷ codes "1000000" ∷ []) ≡ Some 1000000)
    × (seed_of (codes "tailplan" ∷ codes "trial" ∷ codes "1000001" ∷ []) ≡ None)
    × (seed_of (codes "tailplan" ∷ codes "trial" ∷ codes "01" ∷ []) ≡ None)
    × (seed_of (codes "tailplan" ∷ codes "trial" ∷ []) ≡ None)
    × (seed_of (codes "tailplan" ∷ codes "trial" ∷ codes "1" ∷ codes "1" ∷ []) ≡ None)
    × (seed_of (codes "tailplan" ∷ codes "./trial" ∷ codes "1" ∷ []) ≡ None)
    × (after_name (codes "trial" ∷ codes "f" ∷ codes "r" ∷ []) ≡ None)
    × (after_name (codes "./trial" ∷ codes "f" ∷ codes "r" ∷ []) ≡ named (codes "./trial") (codes "f") (codes "r"))
unfolding clap_on_literals run_of seed_of
trials = (refl, refl, refl, refl, refl, refl, refl, refl, refl)

-- behind the word that asks why no plan is legal stand three tables; a timetable of that name is written as a path
whys : (why_of (codes "tailplan" ∷ codes "why" ∷ codes "t" ∷ codes "f" ∷ codes "r" ∷ []) ≡ Some t_f_r)
    × (why_of (codes "tailplan" ∷ codes "why" ∷ codes "t" ∷ codes "f" ∷ []) ≡ None)
    × (why_of (codes "tailplan" ∷ codes "why" ∷ codes "t" ∷ codes "f" ∷ codes "r" ∷ codes "x" ∷ []) ≡ None)
    × (why_of (codes "tailplan" ∷ codes "./why" ∷ codes "t" ∷ codes "f" ∷ codes "r" ∷ []) ≡ None)
    × (why_of (codes "tailplan" ∷ codes "why" ∷ codes "--" ∷ codes "-f" ∷ codes "why" ∷ []) ≡ Some (record { timetable = codes "--"; fleet = codes "-f"; rules = codes "why" }))
    × (after_name (codes "why" ∷ codes "f" ∷ codes "r" ∷ []) ≡ None)
    × (after_name (codes "./why" ∷ codes "f" ∷ codes "r" ∷ []) ≡ named (codes "./why") (codes "f") (codes "r"))
unfolding clap_on_literals run_of why_of
whys = (refl, refl, refl, refl, refl, refl, refl)

-- the tables `t`, `f` and `r`, and the quotas `q`
abbrev t_f_r_q : FourNamesSeen
t_f_r_q = record { tables = t_f_r; fourth = codes "q" }

-- behind the word that asks for quotas stand three tables and that of the quotas; a timetable of that name is written as a path
quotas : (quota_of (codes "tailplan" ∷ codes "quota" ∷ codes "t" ∷ codes "f" ∷ codes "r" ∷ codes "q" ∷ []) ≡ Some t_f_r_q)
    × (quota_of (codes "tailplan" ∷ codes "quota" ∷ codes "t" ∷ codes "f" ∷ codes "r" ∷ []) ≡ None)
    × (quota_of (codes "tailplan" ∷ codes "quota" ∷ codes "t" ∷ codes "f" ∷ codes "r" ∷ codes "q" ∷ codes "x" ∷ []) ≡ None)
    × (quota_of (codes "tailplan" ∷ codes "./quota" ∷ codes "t" ∷ codes "f" ∷ codes "r" ∷ codes "q" ∷ []) ≡ None)
    × (after_name (codes "quota" ∷ codes "f" ∷ codes "r" ∷ []) ≡ None)
    × (after_name (codes "./quota" ∷ codes "f" ∷ codes "r" ∷ []) ≡ named (codes "./quota") (codes "f") (codes "r"))
unfolding clap_on_literals run_of quota_of
quotas = (refl, refl, refl, refl, refl, refl)
