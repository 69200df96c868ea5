-- What pricing knows of a row, or of the carry-in where there is none, and of the route to it.
-- For src/fill.rt, src/end.rt and others.
use Rattle.std.specs.Prelude.{◌≡◌, ℕ, ℤ, pos, ◌+ℤ◌, ◌<◌, List, ◌∷◌, length, Option, None, Some, IfSome}
use Rattle.tail_book.specs.Seen.{BookSeen}
use Rattle.tail_book.specs.TableSeen.{CostTableSeen}
use Rattle.tail_book.specs.declared.place.Place.{Place}
use Rattle.tail_book.specs.declared.place.Place.TheVariants.{Carry, After}
use Rattle.tail_book.specs.Lookup.{carry_of}
use Rattle.tail_book.specs.Counters.{step, WithinLimits}
use Rattle.tail_book.specs.Route.{IsLegalRoute}
use Rattle.tail_book.specs.inside.OneMore.{end_place}
use Rattle.tail_book.specs.inside.Route.{counters_after}
use Rattle.maint_counters.specs.inside.Counts.{AreCounts}
use Rattle.branch_marks.specs.declared.fact.Fact.{Fact}
use Rattle.branch_marks.specs.Marks.{IsAliveAt, IsUsable}
use Rattle.branch_marks.specs.inside.Fitting.{IsUsableFrom}
use Rattle.branch_marks.specs.Weights.{weight, arc_weight}
use Rattle.label_store.specs.Seen.{StoreSeen}
use Rattle.label_store.specs.Buckets.{row_at}
use Rattle.label_store.specs.Store.{node_of}
use Rattle.pricing.specs.Rows.{weight_of, counters_of, route_to}

-- the place of a row: behind its node
abbrev pub place_of : StoreSeen → Option ℕ → Place
place_of store None = Carry
place_of store (Some j) = After (node_of store j)

-- the values at the carry-in
abbrev pub first_row : BookSeen → ℕ → List ℤ
first_row book k = pos 0 ∷ carry_of book k

-- the values of a row
abbrev pub row_of : BookSeen → ℕ → StoreSeen → Option ℕ → List ℤ
row_of book k store None = first_row book k
row_of book k store (Some j) = row_at store.rows j

-- the values after b, from a place with these values, where b adds this weight
abbrev pub row_after : BookSeen → ℕ → ℤ → Place → ℕ → List ℤ → List ℤ
row_after book k arc x b row = (weight_of row +ℤ arc) ∷ step book k x b (counters_of row)

-- the route is legal, its links are usable, and it has this weight with these counters, and this place at its end
pub record IsTrueRoute (table : CostTableSeen) (book : BookSeen) (marks : List Fact) (k : ℕ) (duals : List ℤ)
    (route : List ℕ) (x : Place) (row : List ℤ) : Type 0 where
  pub legal : IsLegalRoute book k route
  pub usable : IsUsableFrom book marks k Carry route
  pub values : row ≡ weight table book k duals route ∷ counters_after book k route
  pub place : end_place route ≡ x
  pub alive : IsAliveAt book marks k x
  pub counts : AreCounts (counters_of row)

-- the route to the row has its values and its place
abbrev pub IsTrueAt : CostTableSeen → BookSeen → List Fact → ℕ → List ℤ → StoreSeen → Option ℕ → Type 0
IsTrueAt table book marks k duals store row = IsTrueRoute table book marks k duals (route_to store row) (place_of store row) (row_of book k store row)

-- and so for each row
abbrev pub AreTrue : CostTableSeen → BookSeen → List Fact → ℕ → List ℤ → StoreSeen → Type 0
AreTrue table book marks k duals store = (j : ℕ) → j < length store.rows → IsTrueAt table book marks k duals store (Some j)

-- the row is of the store, or there is none
abbrev pub IsKept : StoreSeen → Option ℕ → Type 0
IsKept store row = IfSome row (λ j. j < length store.rows)

-- this is the row after b, from a place with a row, over a usable link and within the limits
pub record IsNext (table : CostTableSeen) (book : BookSeen) (marks : List Fact) (k : ℕ) (duals : List ℤ)
    (x : Place) (row : List ℤ) (b : ℕ) (next : List ℤ) : Type 0 where
  pub usable : IsUsable book marks k x b
  pub within : WithinLimits book.rules.counters (step book k x b (counters_of row))
  pub counts : AreCounts (step book k x b (counters_of row))
  pub values : next ≡ row_after book k (arc_weight table book k duals x b) x b row
