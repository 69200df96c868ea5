-- Labels and dominance: what is kept of the beginning of a route, and when one beginning is at least as good as another.
-- For src/laws/covering.rt.
use Rattle.std.specs.Prelude.{◌≡◌, ℕ, ℤ, ◌+ℤ◌, ◌≤ℤ◌, List, Any}
use Rattle.tail_book.specs.Seen.{BookSeen}
use Rattle.tail_book.specs.TableSeen.{CostTableSeen}
use Rattle.tail_book.specs.declared.place.Place.{Place}
use Rattle.tail_book.specs.declared.place.Place.TheVariants.{After}
use Rattle.tail_book.specs.Counters.{step, WithinLimits}
use Rattle.tail_book.specs.CounterOrder.{EachAtMost}
use Rattle.branch_marks.specs.Weights.{arc_weight}

-- the last activity of a route's beginning, what it weighs, in thousandths of a cost unit, and the counters there
pub record Label : Type 0 where
  pub at : ℕ
  pub weight : ℤ
  pub counters : List ℤ

-- a label covers another at the same activity where neither its weight nor any of its counters is larger
pub record Covers (label other : Label) : Type 0 where
  pub at : label.at ≡ other.at
  pub weight : label.weight ≤ℤ other.weight
  pub counters : EachAtMost label.counters other.counters

-- some member of the family covers the label
abbrev pub IsCoveredBy : List Label → Label → Type 0
IsCoveredBy family label = Any (λ (member : Label). Covers member label) family

-- the label after b, from a place with a weight and counters
abbrev pub label_after : CostTableSeen → BookSeen → ℕ → List ℤ → Place → ℤ → List ℤ → ℕ → Label
label_after table book k duals x weight values b =
    record { at = b; weight = weight +ℤ arc_weight table book k duals x b; counters = step book k x b values }

-- the label after b, from a label
abbrev pub label_step : CostTableSeen → BookSeen → ℕ → List ℤ → Label → ℕ → Label
label_step table book k duals label b = label_after table book k duals (After label.at) label.weight label.counters b

-- the step from the label to b stays within the limits
abbrev pub StepsWithin : BookSeen → ℕ → Label → ℕ → Type 0
StepsWithin book k label b = WithinLimits book.rules.counters (step book k (After label.at) b label.counters)

-- a label covers itself
abbrev pub LabelsCoverThemselves : Type 0
LabelsCoverThemselves = (label : Label) → Covers label label

-- what covers the middle covers what the middle covers
abbrev pub CoversChain : Type 0
CoversChain = (label middle other : Label) → Covers label middle → Covers middle other → Covers label other

-- where the step of a covered label stays within the limits, that of the one that covers it does, and what it gives covers what that gives
abbrev pub CoveredStepsAreCovered : Type 0
CoveredStepsAreCovered = (table : CostTableSeen) (book : BookSeen) (k : ℕ) (duals : List ℤ) (label other : Label) (b : ℕ) → Covers label other
    → StepsWithin book k other b → StepsWithin book k label b × Covers (label_step table book k duals label b) (label_step table book k duals other b)
