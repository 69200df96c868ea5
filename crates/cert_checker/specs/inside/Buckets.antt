-- The labels of one activity, which stand side by side where labels come in order of activity.
use Rattle.std.specs.Prelude.{ℕ, pos, ◌≡◌, ◌<◌, ◌≤◌, true, List, [], All, length, slice_index_or}
use Rattle.tail_book.specs.Seen.{BookSeen}
use Rattle.branch_marks.specs.declared.fact.Fact.{Fact}
use Rattle.branch_marks.specs.MarkTests.{is_alive}
use Rattle.branch_marks.specs.Labels.{Label}
use Rattle.maint_counters.specs.inside.Counts.{AreCountable}

-- what stands where there is no label
abbrev pub no_label : Label
no_label = record { at = 0; weight = pos 0; counters = [] }

-- the activity of the label of a number
abbrev pub at_in : List Label → ℕ → ℕ
at_in family i = (slice_index_or family i no_label).at

-- no label comes after one of a later activity
abbrev pub IsInOrder : List Label → Type 0
IsInOrder family = (i j : ℕ) → i ≤ j → j < length family → at_in family i ≤ at_in family j

-- the labels of b begin at this number: those before it are of earlier activities, and the one there is not
pub record IsStart (family : List Label) (b start : ℕ) : Type 0 where
  pub within : start ≤ length family
  pub before : (i : ℕ) → i < start → at_in family i < b
  pub from : start < length family → b ≤ at_in family start

-- there is the start of each activity of the book
pub record AreStarts (book : BookSeen) (family : List Label) (starts : List ℕ) : Type 0 where
  pub one_each : length starts ≡ length book.activities
  pub each : (b : ℕ) → b < length book.activities → IsStart family b (slice_index_or starts b 0)

-- the label is of the book, and has a value for each counter, none of them below 0 or large
pub record IsLabelOf (book : BookSeen) (label : Label) : Type 0 where
  pub activity : label.at < length book.activities
  pub count : length label.counters ≡ length book.rules.counters
  pub counters : AreCountable label.counters

-- the labels are of the book, in order, and alive for aircraft k
pub record IsFamilyOf (book : BookSeen) (marks : List Fact) (k : ℕ) (family : List Label) : Type 0 where
  pub each : All (IsLabelOf book) family
  pub order : IsInOrder family
  pub alive : All (λ label. is_alive book marks k label.at ≡ true) family
