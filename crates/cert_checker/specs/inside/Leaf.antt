-- What the labels of a leaf are looked at by: a book with what judging reads of it, marks, duals, and one of its aircraft; and
-- what is asked of them.
use Rattle.std.specs.Prelude.{ℕ, ℤ, pos, ◌≡◌, ◌<◌, ◌+ℤ◌, Bool, ◌&&◌, ◌||◌, not, List, Option, length}
use Rattle.std.specs.List.{list_all}
use Rattle.tail_book.specs.Seen.{BookSeen}
use Rattle.tail_book.specs.Lookup.{activities, aircraft, carry_of}
use Rattle.tail_book.specs.Counters.{step}
use Rattle.tail_book.specs.CostTable.{costs_of}
use Rattle.tail_book.specs.LegalTests.{within_limits}
use Rattle.tail_book.specs.declared.place.Place.{Place}
use Rattle.tail_book.specs.declared.place.Place.TheVariants.{Carry, After}
use Rattle.branch_marks.specs.declared.fact.Fact.{Fact}
use Rattle.branch_marks.specs.Labels.{Label, label_after}
use Rattle.branch_marks.specs.Weights.{arc_weight}
use Rattle.branch_marks.specs.FamilyTests.{goes_on, is_covered_by}
use Rattle.branch_marks.specs.MarkTests.{is_usable}
use Rattle.branch_marks.specs.TreeTests.{is_shown_family}
use Rattle.branch_marks.specs.inside.MarkTables.{AreMarksOf}
use Rattle.cert_checker.specs.Reasons.{shows}
use Rattle.cert_checker.specs.declared.leaf.Leaf.{Leaf}
use Rattle.cert_checker.specs.inside.Buckets.{AreStarts, IsFamilyOf}
use Rattle.cert_checker.specs.inside.Means.{AreMeansOf}

-- all of it is of the book, and the labels are a family, with the start of each activity
pub record IsLeaf (leaf : Leaf) : Type 0 where
  pub means : AreMeansOf leaf.book.now leaf.means.now
  pub marks : AreMarksOf leaf.book.now leaf.marks.now
  pub aircraft : leaf.k < aircraft leaf.book.now
  pub duals : length leaf.duals.now ≡ activities leaf.book.now
  pub family : IsFamilyOf leaf.book.now leaf.marks.now.facts leaf.k leaf.family.now
  pub starts : AreStarts leaf.book.now leaf.family.now leaf.starts.now

-- a link is not to be gone over, or some label covers what it comes to
abbrev pub met : BookSeen → List Fact → ℕ → List ℤ → List Label → Place → ℤ → List ℤ → ℕ → Bool
met book marks k duals family x weight values b =
    not (is_usable book marks k x b && within_limits book.rules.counters (step book k x b values))
    || is_covered_by family (label_after (costs_of book) book k duals x weight values b)

-- the same of the leaf's labels
abbrev pub is_met_in : Leaf → Place → ℤ → List ℤ → ℕ → Bool
is_met_in leaf x weight values b =
    met leaf.book.now leaf.marks.now.facts leaf.k leaf.duals.now leaf.family.now x weight values b

-- a label of the leaf covers what comes over a link to activity b, with these counters there
abbrev pub covers_after : Leaf → Place → ℤ → ℕ → List ℤ → Bool
covers_after leaf x weight b values =
    is_covered_by leaf.family.now (record {
      at = b;
      weight = weight +ℤ arc_weight (costs_of leaf.book.now) leaf.book.now leaf.k leaf.duals.now x b;
      counters = values;
    })

-- the labels go on from a place with this weight and these counters
abbrev pub goes_on_from : Leaf → Place → ℤ → List ℤ → Bool
goes_on_from leaf x weight values =
    goes_on (costs_of leaf.book.now) leaf.book.now leaf.marks.now.facts leaf.k leaf.duals.now leaf.family.now x weight values

-- from the carry-in
abbrev pub goes_on_from_carry : Leaf → Bool
goes_on_from_carry leaf = goes_on_from leaf Carry (pos 0) (carry_of leaf.book.now leaf.k)

-- from each of these labels
abbrev pub goes_on_from_each : Leaf → List Label → Bool
goes_on_from_each leaf labels = list_all (λ label. goes_on_from leaf (After label.at) label.weight label.counters) labels

-- the labels are closed
abbrev pub is_closed_in : Leaf → Bool
is_closed_in leaf =
    is_shown_family (costs_of leaf.book.now) leaf.book.now leaf.marks.now.facts leaf.k leaf.duals.now leaf.family.now

-- the labels show that no route weighs less than a value, or, where there is no value, that there is no route
abbrev pub shows_in : Leaf → Option ℤ → Bool
shows_in leaf value = shows leaf.book.now leaf.marks.now.facts leaf.k leaf.duals.now value leaf.family.now
