-- The reading of the words: the program's name, and then the names of three tables, how many nodes may be counted and in which
-- order, and the name of the certificate's file and its version; or the word `trial` and a seed.
use Rattle.std.specs.Prelude.{ℕ, Bool, ◌||◌, true, false, List, [], ◌∷◌, bytes_eq, codes, Option, Some, None, Result, Ok, Err, if◌then◌else◌, option_and_then, option_map}
use Rattle.std.specs.Option.{option_map_or}
use Rattle.clap.specs.Words.{App, Row, Rule, first_of, new_rule, with_rule}
use Rattle.clap.specs.declared.builder.action.ArgAction.TheVariants.{SetTrue}
use Rattle.tail_text.specs.Number.{number_of}
use Rattle.tail_text.specs.declared.bad.Bad.{Bad}
use Rattle.branch_tree.specs.declared.limit.Limit.{Limit}
use Rattle.branch_tree.specs.declared.limit.Limit.TheVariants.{Free, Nodes}
use Rattle.cert_lines.specs.declared.version.Version.{Version}
use Rattle.cert_lines.specs.declared.version.Version.TheVariants.{Full, Lean}
use Rattle.certified_search.specs.declared.order.Order.{Order}
use Rattle.certified_search.specs.declared.order.Order.TheVariants.{DepthFirst, LeastBound}
use Rattle.run_frame.specs.Words.{matched, optional, tables_command, tables_in}
use Rattle.seed_tables.specs.declared.trial.TheConstants.{SEED_LIMIT}
use Rattle.tailplan.specs.QuotaWords.{is_quota}
use Rattle.tailplan.specs.RepairWords.{is_repair}
use Rattle.tailplan.specs.Tasks.{TaskNamesSeen}
use Rattle.tailplan.specs.WhyWords.{is_why}
use Rattle.tailplan.specs.declared.words.TheConstants.{NODE_LIMIT}

-- a flag, which may be given, once and without a value
abbrev pub flag : List ℕ → Rule
flag id = record (new_rule id) { long = Some id; action = Some SetTrue }

-- three places and two options
abbrev pub with_options : App
with_options = with_rule (with_rule (tables_command (codes "tailplan")) (optional (codes "nodes"))) (optional (codes "cert"))

-- the command: these, and two flags
abbrev pub command : App
command = with_rule (with_rule with_options (flag (codes "best"))) (flag (codes "lean"))

-- a number limits the nodes, and any other text is refused
abbrev pub limited : Result ℕ Bad → Option Limit
limited (Ok most) = Some (Nodes most)
limited (Err bad) = None

-- the limit that a value of the option gives; without one the nodes are free
abbrev pub limit_of : Option (List ℕ) → Option Limit
limit_of None = Some Free
limit_of (Some text) = limited (number_of NODE_LIMIT text)

-- a flag that was given has this word for its value
abbrev pub is_given : List ℕ → List Row → Bool
is_given id rows = option_map_or (λ word. bytes_eq word (codes "true")) (first_of id rows) false

-- a search is depth first, unless its flag asks for the least bound
abbrev pub order_of : Bool → Order
order_of best = if best then LeastBound else DepthFirst

-- a certificate is full, unless its flag asks for a lean one; without a certificate the flag is refused
abbrev pub version_of : Bool → Option (List ℕ) → Option Version
version_of false cert = Some Full
version_of true None = None
version_of true (Some name) = Some Lean

-- the names, the limit, the order and the version among what the command matched; any text is the name of a certificate's file
abbrev pub names_in : List Row → Option TaskNamesSeen
names_in rows =
    option_and_then (λ tables. option_and_then (λ limit. option_map (λ version.
    record { tables = tables; limit = limit; order = order_of (is_given (codes "best") rows); version = version; cert = first_of (codes "cert") rows })
    (version_of (is_given (codes "lean") rows) (first_of (codes "cert") rows)))
    (limit_of (first_of (codes "nodes") rows)))
    (tables_in rows)

-- the word behind the program's name asks for a trial; a timetable of that name is written as a path
abbrev pub is_trial : List (List ℕ) → Bool
is_trial [] = false
is_trial (program ∷ []) = false
is_trial (program ∷ word ∷ rest) = bytes_eq word (codes "trial")

-- the names that the words give; words that the command refuses give none, nor do those that ask for a trial, for a repair,
-- why no plan is legal, or for quotas
unfoldable pub run_of : List (List ℕ) → Option TaskNamesSeen
run_of words = if is_trial words || (is_repair words || (is_why words || is_quota words)) then None else option_and_then names_in (matched command words)

-- a seed is a number, and any other text is refused
abbrev pub seeded : Result ℕ Bad → Option ℕ
seeded (Ok seed) = Some seed
seeded (Err bad) = None

-- it stands alone behind the word that asks for a trial
abbrev pub seed_in : List (List ℕ) → Option ℕ
seed_in [] = None
seed_in (text ∷ []) = seeded (number_of SEED_LIMIT text)
seed_in (text ∷ more ∷ rest) = None

abbrev pub seed_behind : List (List ℕ) → Option ℕ
seed_behind [] = None
seed_behind (program ∷ []) = None
seed_behind (program ∷ word ∷ rest) = seed_in rest

-- the seed of the trial that the words ask for
unfoldable pub seed_of : List (List ℕ) → Option ℕ
seed_of words = if is_trial words then seed_behind words else None
