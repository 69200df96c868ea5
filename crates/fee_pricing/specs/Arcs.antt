-- What routes weigh where each activity adds a weight by the place before it, and which families of labels are closed then.
-- For Price.antt and src/laws.rt.
use Rattle.std.specs.Prelude.{◌≡◌, ℕ, ℤ, pos, ◌<◌, ◌+ℤ◌, ◌≤ℤ◌, List, [], ◌∷◌, All}
use Rattle.tail_book.specs.Seen.{BookSeen}
use Rattle.tail_book.specs.declared.place.Place.{Place}
use Rattle.tail_book.specs.declared.place.Place.TheVariants.{Carry, After}
use Rattle.tail_book.specs.Lookup.{activities, carry_of}
use Rattle.tail_book.specs.Counters.{step, WithinLimits}
use Rattle.tail_book.specs.Route.{IsLegalRoute}
use Rattle.branch_marks.specs.declared.fact.Fact.{Fact}
use Rattle.branch_marks.specs.Marks.{IsAlive, IsUsable, Fits}
use Rattle.branch_marks.specs.Labels.{Label, IsCoveredBy}

-- what the rest of a route from a place on weighs, added up along it, where b after x adds arc x b
abbrev pub arcs_from : (Place → ℕ → ℤ) → Place → List ℕ → ℤ
arcs_from arc x [] = pos 0
arcs_from arc x (b ∷ rest) = arc x b +ℤ arcs_from arc (After b) rest

-- what a route weighs then, from its carry-in on
abbrev pub weight_by : (Place → ℕ → ℤ) → List ℕ → ℤ
weight_by arc route = arcs_from arc Carry route

-- every legal route of aircraft k that fits the marks weighs at least this
abbrev pub WeighsAtLeastBy : (Place → ℕ → ℤ) → BookSeen → List Fact → ℕ → ℤ → Type 0
WeighsAtLeastBy arc book marks k low = (route : List ℕ) → IsLegalRoute book k route → Fits book marks k route → low ≤ℤ weight_by arc route

-- the route of aircraft k is legal, fits the marks, and weighs this
pub record IsRouteOfWeightBy (arc : Place → ℕ → ℤ) (book : BookSeen) (marks : List Fact) (k : ℕ) (value : ℤ) (route : List ℕ) : Type 0 where
  pub legal : IsLegalRoute book k route
  pub fits : Fits book marks k route
  pub weighs : weight_by arc route ≡ value

-- each usable link of aircraft k from the place whose step stays within the limits gives a label that a member covers
abbrev pub GoesOnBy : (Place → ℕ → ℤ) → BookSeen → List Fact → ℕ → List Label → Place → ℤ → List ℤ → Type 0
GoesOnBy arc book marks k family x weight values =
    (b : ℕ) → b < activities book → IsUsable book marks k x b → WithinLimits book.rules.counters (step book k x b values)
    → IsCoveredBy family (record { at = b; weight = weight +ℤ arc x b; counters = step book k x b values })

-- the family is closed for aircraft k: its activities are alive, and it goes on from the carry-in and from each of its members
pub record IsClosedBy (arc : Place → ℕ → ℤ) (book : BookSeen) (marks : List Fact) (k : ℕ) (family : List Label) : Type 0 where
  pub alive : All (λ (member : Label). IsAlive book marks k member.at) family
  pub first : GoesOnBy arc book marks k family Carry (pos 0) (carry_of book k)
  pub next : All (λ (member : Label). GoesOnBy arc book marks k family (After member.at) member.weight member.counters) family
