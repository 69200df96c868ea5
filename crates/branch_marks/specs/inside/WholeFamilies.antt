-- What holds of an aircraft's routes is shown by some family of labels. With the laws of closed families it is so both ways.
use Rattle.std.specs.Prelude.{◌≡◌, ◌<◌, ℕ, ℤ, List, All, map}
use Rattle.tail_book.specs.Seen.{BookSeen}
use Rattle.tail_book.specs.TableSeen.{CostTableSeen}
use Rattle.tail_book.specs.declared.place.Place.TheVariants.{After}
use Rattle.tail_book.specs.Lookup.{aircraft}
use Rattle.tail_book.specs.inside.Sound.{IsBook}
use Rattle.branch_marks.specs.declared.fact.Fact.{Fact}
use Rattle.branch_marks.specs.Bound.{AreLowWeights}
use Rattle.branch_marks.specs.DeadEnds.{IsStuck}
use Rattle.branch_marks.specs.Labels.{Label}
use Rattle.branch_marks.specs.Marks.{MayEnd}
use Rattle.branch_marks.specs.ProofTree.{Cover, IsShownFamily, IsShownCover, IsShownStuck, IsShownBound}
use Rattle.branch_marks.specs.Settled.{AreDuals}
use Rattle.branch_marks.specs.Weights.{WeighsAtLeast, IsRouteOfWeight}

-- each member at which aircraft k may end has the weight of a legal route that fits
abbrev pub AreEndsOfRoutes : CostTableSeen → BookSeen → List Fact → ℕ → List ℤ → List Label → Type 0
AreEndsOfRoutes table book marks k duals family =
    All (λ (label : Label). MayEnd marks k (After label.at) → (route : List ℕ) × IsRouteOfWeight table book marks k duals label.weight route) family

-- an aircraft has such a family, whatever the duals
abbrev pub FamiliesOfRoutesExist : Type 0
FamiliesOfRoutesExist = (table : CostTableSeen) (book : BookSeen) → IsBook book → (marks : List Fact) (k : ℕ) (duals : List ℤ)
    → (family : List Label) × IsShownFamily table book marks k duals family × AreEndsOfRoutes table book marks k duals family

-- a value that no legal route of aircraft k that fits undercuts has a cover with that value
abbrev pub LowWeightsAreShown : Type 0
LowWeightsAreShown = (table : CostTableSeen) (book : BookSeen) → IsBook book → (marks : List Fact) (k : ℕ) (duals : List ℤ) (value : ℤ)
    → WeighsAtLeast table book marks k duals value → (family : List Label) × IsShownCover table book marks k duals (record { value = value; family = family })

-- an aircraft of the book without a legal route that fits has a family without an end
abbrev pub StuckIsShown : Type 0
StuckIsShown = (table : CostTableSeen) (book : BookSeen) → IsBook book → (marks : List Fact) (k : ℕ)
    → k < aircraft book → IsStuck book marks k → (family : List Label) × IsShownStuck table book marks k family

-- duals in the box with such a value for each aircraft have covers with these values
abbrev pub LowBoundsAreShown : Type 0
LowBoundsAreShown = (table : CostTableSeen) (book : BookSeen) → IsBook book → (marks : List Fact) (duals values : List ℤ)
    → AreDuals table book duals → AreLowWeights table book marks duals values
    → (covers : List Cover) × IsShownBound table book marks duals covers × (map (λ cover. cover.value) covers ≡ values)
