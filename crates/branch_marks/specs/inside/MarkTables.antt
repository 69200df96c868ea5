-- What the tables of marks say of the facts: each entry is what the whole list of facts says there.
-- For src/marks/questions.rt, src/fact_rows.rt and others.
use Rattle.std.specs.Prelude.{ℕ, ◌≡◌, ◌<◌, ◌≤◌, ◌&&◌, List, All, Bool, false, if◌then◌else◌, not, nat_eq, length, Option, None, Some, slice_index_or}
use Rattle.std.specs.List.{list_all, list_any}
use Rattle.tail_book.specs.Seen.{BookSeen}
use Rattle.tail_book.specs.Lookup.{activities, aircraft}
use Rattle.tail_book.specs.LegalTests.{is_allowed}
use Rattle.branch_marks.specs.declared.fact.Fact.{Fact}
use Rattle.branch_marks.specs.declared.fact.Fact.TheVariants.{Bar, Must, Cut, Tie}
use Rattle.branch_marks.specs.declared.named.Named.{Named}
use Rattle.branch_marks.specs.declared.named.Named.TheVariants.{Nothing}
use Rattle.branch_marks.specs.declared.naming.Naming.{Naming}
use Rattle.branch_marks.specs.declared.naming.Naming.TheVariants.{Next, Previous, Carrier}
use Rattle.branch_marks.specs.FactTests.{same_fact}
use Rattle.branch_marks.specs.MarkTests.{lets_fly}
use Rattle.branch_marks.specs.inside.BitRows.{BitRowsSeen, has_pair}
use Rattle.branch_marks.specs.inside.Named.{lets_number, named_by}
use Rattle.branch_marks.specs.inside.Once.{AreOnce}
use Rattle.branch_marks.specs.MarksSeen.{MarksSeen}

-- the fact bars aircraft k from a; gives a to it; cuts b from a; ties b to a
abbrev pub is_bar : ℕ → ℕ → Fact → Bool
is_bar k a fact = same_fact (Bar k a) fact

abbrev pub is_must : ℕ → ℕ → Fact → Bool
is_must k a fact = same_fact (Must k a) fact

abbrev pub is_cut : ℕ → ℕ → Fact → Bool
is_cut a b fact = same_fact (Cut a b) fact

abbrev pub is_tie : ℕ → ℕ → Fact → Bool
is_tie a b fact = same_fact (Tie a b) fact

-- the activity that the fact ties behind a
abbrev pub tied_after : ℕ → Fact → Option ℕ
tied_after a (Bar j c) = None
tied_after a (Must j c) = None
tied_after a (Cut c d) = None
tied_after a (Tie c d) = if nat_eq c a then Some d else None

-- the activity that the fact ties before b
abbrev pub tied_before : ℕ → Fact → Option ℕ
tied_before b (Bar j c) = None
tied_before b (Must j c) = None
tied_before b (Cut c d) = None
tied_before b (Tie c d) = if nat_eq d b then Some c else None

-- the aircraft that the fact gives a to
abbrev pub given_to : ℕ → Fact → Option ℕ
given_to a (Bar j c) = None
given_to a (Must j c) = if nat_eq c a then Some j else None
given_to a (Cut c d) = None
given_to a (Tie c d) = None

-- what the fact names for an activity
abbrev pub names_at : Naming → ℕ → Fact → Option ℕ
names_at Next a fact = tied_after a fact
names_at Previous a fact = tied_before a fact
names_at Carrier a fact = given_to a fact

-- the rows have a pair for each aircraft that may fly an activity by the rules alone
pub record IsAllowedTable (book : BookSeen) (allowed : BitRowsSeen) : Type 0 where
  pub rows : allowed.rows ≡ activities book
  pub columns : allowed.columns ≡ aircraft book
  pub pairs : (a k : ℕ) → a < activities book → k < aircraft book → has_pair allowed a k ≡ is_allowed book k a

-- the rows, one for each of n activities, have a pair for each of m aircraft that is allowed and that each fact lets fly
pub record IsAliveTable (m n : ℕ) (allowed : BitRowsSeen) (marks : List Fact) (alive : BitRowsSeen) : Type 0 where
  pub rows : alive.rows ≡ n
  pub columns : alive.columns ≡ m
  pub pairs : (a k : ℕ) → a < n → k < m → has_pair alive a k ≡ (has_pair allowed a k && list_all (lets_fly k a) marks)

-- the rows, so many of so many columns, have a pair for each fact of a kind
pub record IsFactTable (rows columns : ℕ) (kind : ℕ → ℕ → Fact → Bool) (marks : List Fact) (table : BitRowsSeen) : Type 0 where
  pub rows_are : table.rows ≡ rows
  pub columns_are : table.columns ≡ columns
  pub pairs : (row column : ℕ) → row < rows → column < columns → has_pair table row column ≡ list_any (kind row column) marks

-- the list has for each of n activities what the facts name there
pub record IsNamedTable (n : ℕ) (names : ℕ → Fact → Option ℕ) (marks : List Fact) (named : List Named) : Type 0 where
  pub count : length named ≡ n
  pub each : (a : ℕ) → a < n → slice_index_or named a Nothing ≡ named_by (names a) marks

-- the numbers in the fact are of so many aircraft and activities
abbrev pub IsFactWithin : ℕ → ℕ → Fact → Type 0
IsFactWithin m n (Bar k a) = (k < m) × (a < n)
IsFactWithin m n (Must k a) = (k < m) × (a < n)
IsFactWithin m n (Cut a b) = (a < n) × (b < n)
IsFactWithin m n (Tie a b) = (a < n) × (b < n)

-- the activities in the fact are among the first n
abbrev pub NamesBelow : ℕ → Fact → Type 0
NamesBelow n (Bar k a) = a < n
NamesBelow n (Must k a) = a < n
NamesBelow n (Cut a b) = (a < n) × (b < n)
NamesBelow n (Tie a b) = (a < n) × (b < n)

-- the fact may have kept aircraft k from activity a
abbrev pub is_about : ℕ → ℕ → Fact → Bool
is_about k a (Bar j c) = nat_eq k j && nat_eq a c
is_about k a (Must j c) = nat_eq a c
is_about k a (Cut c d) = false
is_about k a (Tie c d) = false

-- aircraft k is allowed at a, not barred from it, and no other is its carrier
abbrev pub is_free : BitRowsSeen → BitRowsSeen → List Named → ℕ → ℕ → Bool
is_free allowed bars carriers a k = has_pair allowed a k && (not (has_pair bars k a) && lets_number (slice_index_or carriers a Nothing) k)

-- what all marks keep: aircraft and activities are few, the numbers in the facts are in range, no fact comes twice, and each
-- table says what the facts say
pub record IsMarks (marks : MarksSeen) : Type 0 where
  pub few_aircraft : marks.aircraft ≤ 4096
  pub few_activities : marks.activities ≤ 4096
  pub facts : All (IsFactWithin marks.aircraft marks.activities) marks.facts
  pub once : AreOnce marks.facts
  pub allowed_rows : marks.allowed.rows ≡ marks.activities
  pub allowed_columns : marks.allowed.columns ≡ marks.aircraft
  pub alive : IsAliveTable marks.aircraft marks.activities marks.allowed marks.facts marks.alive
  pub bars : IsFactTable marks.aircraft marks.activities is_bar marks.facts marks.bars
  pub musts : IsFactTable marks.aircraft marks.activities is_must marks.facts marks.musts
  pub cuts : IsFactTable marks.activities marks.activities is_cut marks.facts marks.cuts
  pub next : IsNamedTable marks.activities tied_after marks.facts marks.next
  pub previous : IsNamedTable marks.activities tied_before marks.facts marks.previous
  pub carriers : IsNamedTable marks.activities given_to marks.facts marks.carriers

-- the marks are of the book: they have its numbers, and know who is allowed
pub record AreMarksOf (book : BookSeen) (marks : MarksSeen) : Type 0 where
  pub aircraft_are : marks.aircraft ≡ aircraft book
  pub activities_are : marks.activities ≡ activities book
  pub allowed : IsAllowedTable book marks.allowed
