-- How the names of a plan are met, in the order in which they are read: the aircraft of a line first, and then its ids.
use Rattle.std.specs.Prelude.{ℕ, List, [], ◌∷◌, ◌++◌, map, position, Option, None, Some, if◌then◌else◌}
use Rattle.std.specs.Str.{bytes_eq}
use Rattle.tail_book.specs.Seen.{BookSeen, RawLineSeen, RawPlanSeen}
use Rattle.tail_book.specs.Numbers.{contains}
use Rattle.tail_book.specs.Lookup.{activities}
use Rattle.plan_audit.specs.declared.met.Met.{Met}
use Rattle.plan_audit.specs.declared.met.Met.TheVariants.{Unknown, Twice, Tail, Activity}

-- the names of the aircraft, and the ids of the activities, each in the book's order
abbrev pub tail_names : BookSeen → List (List ℕ)
tail_names book = map (λ t. t.name) book.tails

abbrev pub activity_ids : BookSeen → List (List ℕ)
activity_ids book = map (λ a. a.id) book.activities

-- the number of the aircraft, and of the activity, of a name, if the book has one
abbrev pub tail_named : BookSeen → List ℕ → Option ℕ
tail_named book name = position (bytes_eq name) (tail_names book)

abbrev pub activity_named : BookSeen → List ℕ → Option ℕ
activity_named book id = position (bytes_eq id) (activity_ids book)

-- the aircraft, and the activities, that were met
abbrev pub tails_met : List Met → List ℕ
tails_met [] = []
tails_met (Unknown name ∷ met) = tails_met met
tails_met (Twice name ∷ met) = tails_met met
tails_met (Tail k ∷ met) = k ∷ tails_met met
tails_met (Activity a ∷ met) = tails_met met

abbrev pub activities_met : List Met → List ℕ
activities_met [] = []
activities_met (Unknown name ∷ met) = activities_met met
activities_met (Twice name ∷ met) = activities_met met
activities_met (Tail k ∷ met) = activities_met met
activities_met (Activity a ∷ met) = a ∷ activities_met met

-- how the name of an aircraft, and an id, with the number that the book has for it, is met behind the names that were
abbrev pub as_tail : List Met → List ℕ → Option ℕ → Met
as_tail met name None = Unknown name
as_tail met name (Some k) = if contains (tails_met met) k then Twice name else Tail k

abbrev pub as_activity : List Met → List ℕ → Option ℕ → Met
as_activity met id None = Unknown id
as_activity met id (Some a) = if contains (activities_met met) a then Twice id else Activity a

-- the names that were met, and behind them an id
abbrev pub with_id : BookSeen → List Met → List ℕ → List Met
with_id book met id = met ++ as_activity met id (activity_named book id) ∷ []

-- the names that were met, and behind them the ids of a line
unfoldable pub with_ids : BookSeen → List Met → List (List ℕ) → List Met
with_ids book met [] = met
with_ids book met (id ∷ ids) = with_ids book (with_id book met id) ids

-- the names that were met, and behind them an aircraft, with its ids only where it is met for the first time (as an activity no aircraft is met)
abbrev pub with_tail : BookSeen → List Met → Met → List (List ℕ) → List Met
with_tail book met (Unknown name) ids = met ++ Unknown name ∷ []
with_tail book met (Twice name) ids = met ++ Twice name ∷ []
with_tail book met (Tail k) ids = with_ids book (met ++ Tail k ∷ []) ids
with_tail book met (Activity a) ids = met ++ Activity a ∷ []

-- the names that were met, and behind them those of a line
abbrev pub with_line : BookSeen → List Met → RawLineSeen → List Met
with_line book met line = with_tail book met (as_tail met line.tail (tail_named book line.tail)) line.ids

-- the names that were met, and behind them those of the lines in their order
unfoldable pub with_lines : BookSeen → List Met → List RawLineSeen → List Met
with_lines book met [] = met
with_lines book met (line ∷ lines) = with_lines book (with_line book met line) lines

-- the names of a plan as they are met
abbrev pub names_met : BookSeen → RawPlanSeen → List Met
names_met book raw = with_lines book [] raw.lines
