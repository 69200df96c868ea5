-- What pricing with fees knows of a row, or of the carry-in where there is none, and of the route to it.
-- For ForAsked.antt and Laws.antt, src/fill.rt and src/laws.rt.
use Rattle.std.specs.Prelude.{◌≡◌, ℕ, ℤ, ◌<◌, List, ◌∷◌, length, Option, Some}
use Rattle.tail_book.specs.Seen.{BookSeen}
use Rattle.tail_book.specs.declared.place.Place.{Place}
use Rattle.tail_book.specs.declared.place.Place.TheVariants.{Carry}
use Rattle.tail_book.specs.Counters.{step, WithinLimits}
use Rattle.tail_book.specs.Route.{IsLegalRoute}
use Rattle.tail_book.specs.inside.OneMore.{end_place}
use Rattle.tail_book.specs.inside.Route.{counters_after}
use Rattle.maint_counters.specs.inside.Counts.{AreCounts}
use Rattle.branch_marks.specs.declared.fact.Fact.{Fact}
use Rattle.branch_marks.specs.Marks.{IsAliveAt, IsUsable}
use Rattle.branch_marks.specs.inside.Fitting.{IsUsableFrom}
use Rattle.label_store.specs.Seen.{StoreSeen}
use Rattle.pricing.specs.Rows.{counters_of, route_to}
use Rattle.pricing.specs.inside.Truth.{place_of, row_of, row_after}
use Rattle.fee_pricing.specs.Arcs.{weight_by}

-- the route is legal, its links are usable, and it has this weight with these counters, and this place at its end
pub record IsTrueRoute (arc : Place → ℕ → ℤ) (book : BookSeen) (marks : List Fact) (k : ℕ)
    (route : List ℕ) (x : Place) (row : List ℤ) : Type 0 where
  pub legal : IsLegalRoute book k route
  pub usable : IsUsableFrom book marks k Carry route
  pub values : row ≡ weight_by arc route ∷ counters_after book k route
  pub place : end_place route ≡ x
  pub alive : IsAliveAt book marks k x
  pub counts : AreCounts (counters_of row)

-- the route to the row has its values and its place
abbrev pub IsTrueAt : (Place → ℕ → ℤ) → BookSeen → List Fact → ℕ → StoreSeen → Option ℕ → Type 0
IsTrueAt arc book marks k store row = IsTrueRoute arc book marks k (route_to store row) (place_of store row) (row_of book k store row)

-- and so for each row
abbrev pub AreTrue : (Place → ℕ → ℤ) → BookSeen → List Fact → ℕ → StoreSeen → Type 0
AreTrue arc book marks k store = (j : ℕ) → j < length store.rows → IsTrueAt arc book marks k store (Some j)

-- this is the row after b, from a place with a row, over a usable link and within the limits
pub record IsNext (arc : Place → ℕ → ℤ) (book : BookSeen) (marks : List Fact) (k : ℕ)
    (x : Place) (row : List ℤ) (b : ℕ) (next : List ℤ) : Type 0 where
  pub usable : IsUsable book marks k x b
  pub within : WithinLimits book.rules.counters (step book k x b (counters_of row))
  pub counts : AreCounts (step book k x b (counters_of row))
  pub values : next ≡ row_after book k (arc x b) x b row
