-- Rows of a store as labels, and the routes that their parents spell. A row is the weight, and then a value for each counter.
-- For src/end.rt, src/exact_price.rt and others.
use Rattle.std.specs.Prelude.{◌≡◌, ℕ, zero, suc, ℤ, pos, ◌<◌, List, [], ◌∷◌, ◌++◌, map, length, Option, None, Some}
use Rattle.std.specs.List.{concat}
use Rattle.tail_book.specs.Seen.{BookSeen}
use Rattle.tail_book.specs.TableSeen.{CostTableSeen}
use Rattle.tail_book.specs.declared.place.Place.TheVariants.{Carry}
use Rattle.tail_book.specs.Route.{IsLegalRoute}
use Rattle.tail_book.specs.inside.Route.{counters_after}
use Rattle.branch_marks.specs.declared.fact.Fact.{Fact}
use Rattle.branch_marks.specs.inside.Fitting.{IsUsableFrom}
use Rattle.branch_marks.specs.Weights.{weight}
use Rattle.branch_marks.specs.Labels.{Label}
use Rattle.label_store.specs.Seen.{StoreSeen}
use Rattle.label_store.specs.Buckets.{row_at}
use Rattle.label_store.specs.Store.{parent_of, node_of}

-- the weight that a row begins with, and the counters behind it
abbrev pub weight_of : List ℤ → ℤ
weight_of [] = pos 0
weight_of (weight ∷ values) = weight

abbrev pub counters_of : List ℤ → List ℤ
counters_of [] = []
counters_of (weight ∷ values) = values

-- the label of row j: its node is the last activity
abbrev pub label_of : StoreSeen → ℕ → Label
label_of store j = record { at = node_of store j; weight = weight_of (row_at store.rows j); counters = counters_of (row_at store.rows j) }

-- the labels of all buckets, in order of activity
abbrev pub labels_of : StoreSeen → List Label
labels_of store = map (label_of store) (concat store.buckets)

-- the nodes of a row and of those that it came from, at most so many, the first of them first
unfoldable pub route_within : ℕ → StoreSeen → Option ℕ → List ℕ
route_within zero store row = []
route_within (suc turns) store None = []
route_within (suc turns) store (Some j) = route_within turns store (parent_of store j) ++ node_of store j ∷ []

-- the route that a row's parents spell; where there is no row it is empty. A parent has a smaller number than its row
abbrev pub route_to : StoreSeen → Option ℕ → List ℕ
route_to store None = []
route_to store (Some j) = route_within (suc j) store (Some j)

-- the route that the parents of row j spell is legal and goes over usable links, and its weight and counters are the row
pub record IsSpelledAt (table : CostTableSeen) (book : BookSeen) (marks : List Fact) (k : ℕ) (duals : List ℤ) (store : StoreSeen) (j : ℕ) : Type 0 where
  pub legal : IsLegalRoute book k (route_to store (Some j))
  pub usable : IsUsableFrom book marks k Carry (route_to store (Some j))
  pub values : row_at store.rows j ≡ weight table book k duals (route_to store (Some j)) ∷ counters_after book k (route_to store (Some j))

-- and so has each kept row
abbrev pub AreSpelled : CostTableSeen → BookSeen → List Fact → ℕ → List ℤ → StoreSeen → Type 0
AreSpelled table book marks k duals store = (j : ℕ) → j < length store.rows → IsSpelledAt table book marks k duals store j
