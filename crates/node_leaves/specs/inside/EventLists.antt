-- Lists of the events of a node that are made before they are told: what is due stands at the end, and a line spells
-- it. For src/node_events.rt.
use Rattle.std.specs.Prelude.{◌≡◌, ◌++◌, ◌<◌, ℕ, ℤ, List, All, length}
use Rattle.branch_marks.specs.declared.event.Event.{Event}
use Rattle.branch_marks.specs.Events.{IsNotable, IsLineLabel}
use Rattle.branch_marks.specs.Labels.{Label}
use Rattle.label_store.specs.Seen.{StoreSeen}
use Rattle.pricing.specs.Rows.{weight_of, counters_of, label_of}

-- the due events were put at the end of the list, each of which a line spells
pub record Lists (old new due : List Event) : Type 0 where
  pub events : new ≡ old ++ due
  pub notable : All IsNotable new

-- the label of a row at an activity
abbrev pub row_label : ℕ → List ℤ → Label
row_label at row = record { at = at; weight = weight_of row; counters = counters_of row }

-- a line spells the label of each kept row
abbrev pub IsSpelledLabel : Label → Type 0
IsSpelledLabel label = IsLineLabel label.at label.weight label.counters

abbrev pub AreSpelledLabels : StoreSeen → Type 0
AreSpelledLabels store = (j : ℕ) → j < length store.rows → IsSpelledLabel (label_of store j)
