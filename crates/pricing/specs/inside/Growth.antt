-- What offers to the bucket of an activity do to a store. For src/departing.rt, src/fill.rt and others.
use Rattle.std.specs.Prelude.{◌≢◌, ℕ, ℤ, List}
use Rattle.tail_book.specs.Seen.{BookSeen}
use Rattle.tail_book.specs.declared.place.Place.{Place}
use Rattle.tail_book.specs.Counters.{step, WithinLimits}
use Rattle.label_store.specs.Seen.{StoreSeen}
use Rattle.label_store.specs.inside.Growth.{GrowsBeside}
use Rattle.label_store.specs.inside.Laws.{IsCoveredAt}
use Rattle.pricing.specs.Rows.{counters_of}
use Rattle.pricing.specs.inside.Truth.{row_after}

-- rows are added alone, what was covered stays covered, and no other bucket changes than that of b
abbrev pub Grows : ℕ → StoreSeen → StoreSeen → Type 0
Grows b old new = GrowsBeside (λ v. v ≢ b) old new

-- from a place with these values, where b adds this weight, a row that b covers comes about or the limits are passed
abbrev pub Tried : BookSeen → ℕ → StoreSeen → ℤ → Place → ℕ → List ℤ → Type 0
Tried book k store arc x b row = WithinLimits book.rules.counters (step book k x b (counters_of row)) → IsCoveredAt store b (row_after book k arc x b row)
