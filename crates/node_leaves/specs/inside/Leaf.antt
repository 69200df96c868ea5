-- Pricing all aircraft at a leaf, and what is told of it: a whole end, a front of one, or nothing.
use Rattle.std.specs.Prelude.{◌≡◌, ◌+◌, ◌<◌, ◌≤◌, ⊤, ℕ, ℤ, List, [], All, length, map, take}
use Rattle.tail_book.specs.Seen.{BookSeen}
use Rattle.tail_book.specs.TableSeen.{CostTableSeen}
use Rattle.tail_book.specs.Lookup.{activities, aircraft}
use Rattle.tail_book.specs.CostTable.{IsCostTable, IsTableFor}
use Rattle.tail_book.specs.inside.Sound.{IsBook}
use Rattle.connection_net.specs.Seen.{NetSeen}
use Rattle.connection_net.specs.Net.{net_of}
use Rattle.branch_marks.specs.declared.event.Event.{Event}
use Rattle.branch_marks.specs.declared.fact.Fact.{Fact}
use Rattle.branch_marks.specs.Bound.{AreLeastWeights, lagrangian}
use Rattle.branch_marks.specs.DeadEnds.{IsStuck}
use Rattle.branch_marks.specs.Events.{IsLineValue}
use Rattle.branch_marks.specs.Labels.{Label}
use Rattle.branch_marks.specs.LogShown.{LogShown}
use Rattle.branch_marks.specs.MarksSeen.{MarksSeen}
use Rattle.branch_marks.specs.ProofTree.{Cover, IsShownCover, IsShownStuck, IsShownBound, zero_duals}
use Rattle.branch_marks.specs.Settled.{AreDuals, AreRoutesOfWeights}
use Rattle.branch_marks.specs.TreeLog.{Notes, NotesFront}
use Rattle.branch_marks.specs.Weights.{IsLeastWeight}
use Rattle.branch_marks.specs.inside.MarkTables.{AreMarksOf}
use Rattle.pricing.specs.inside.Prepared.{IsPricerOf}
use Rattle.route_search.specs.Search.{IsSearchOf}
use Rattle.node_leaves.specs.declared.node_pricer.NodePricer.{NodePricer}
use Rattle.node_leaves.specs.declared.node_pricer.PricedAll.{PricedAll}
use Rattle.node_leaves.specs.declared.node_pricer.PricedAll.TheVariants as all
use Rattle.node_leaves.specs.declared.leaf.PricedLeaf.{PricedLeaf}
use Rattle.node_leaves.specs.declared.leaf.PricedLeaf.TheVariants as leaf
use Rattle.node_leaves.specs.Priced.{IsPriced}
use Rattle.node_leaves.specs.Place.{Open}
use Rattle.node_leaves.specs.Node.{Ending, Stuck, Bounded, IsShownEnding, AreFirstCovers}
use Rattle.branch_marks.specs.TreeEvents.{cover_event, cover_events, bound_events, stuck_events}
use Rattle.node_leaves.specs.NodeEvents.{ending_events}

-- the node pricer is of the book and the table: what it reads of them, a store that has room for the labels, and a search
pub record IsNodePricerOf (table : CostTableSeen) (book : BookSeen) (prices : NodePricer) : Type 0 where
  pub costs : IsTableFor book table
  pub pricer : IsPricerOf book table prices.pricer
  pub nodes : length prices.store.buckets ≡ activities book
  pub width : prices.store.width ≡ 1 + length book.rules.counters
  pub search : IsSearchOf book prices.search

-- all that pricing a node asks for is of one book
pub record IsReady (table : CostTableSeen) (book : BookSeen) (net : NetSeen) (marks : MarksSeen) (prices : NodePricer) : Type 0 where
  pub links : net ≡ net_of book
  pub facts : AreMarksOf book marks
  pub pricer : IsNodePricerOf table book prices

-- the least weights of all aircraft with a route that has each, or an aircraft that is stuck
abbrev pub ArePrices : CostTableSeen → BookSeen → List Fact → List ℤ → PricedAll → Type 0
ArePrices table book marks duals (all.Least values routes) =
    AreLeastWeights table book marks duals values.items × AreRoutesOfWeights table book marks duals values.items routes.items
ArePrices table book marks duals (all.Stuck k) = (k < aircraft book) × IsStuck book marks k

-- a cover of aircraft k with this value is shown and told
abbrev pub IsCoverNoted : CostTableSeen → BookSeen → List Fact → ℕ → List ℤ → ℤ → LogShown → LogShown → Type 0
IsCoverNoted table book marks k duals value old new =
    (family : List Label) × IsShownCover table book marks k duals (record { value = value; family = family })
    × Notes old new (cover_event k (record { value = value; family = family }))

-- that aircraft k is stuck is shown and told
abbrev pub IsStuckNoted : CostTableSeen → BookSeen → List Fact → ℕ → LogShown → LogShown → Type 0
IsStuckNoted table book marks k old new = (family : List Label) × IsShownStuck table book marks k family × Notes old new (stuck_events k family)

-- a log was told a front of the cover of aircraft k, which is shown; or nothing
pub record IsCutAtCover (table : CostTableSeen) (book : BookSeen) (marks : List Fact) (k : ℕ) (duals : List ℤ) (old new : LogShown) : Type 0 where
  pub begun : List Cover
  pub few : length begun ≤ 1
  pub shown : All (IsShownCover table book marks k duals) begun
  pub front : NotesFront old new (cover_events k begun)

-- what was told of a leaf: nothing; an end that is shown as a whole; or a bound that was begun, with its duals and first covers
pub data Leaf : Type 0 where
  Untold : Leaf
  Whole : Ending → Leaf
  Begun : List ℤ → List Cover → Leaf

abbrev pub IsShownLeaf : CostTableSeen → BookSeen → List Fact → Leaf → Type 0
IsShownLeaf table book marks Untold = ⊤
IsShownLeaf table book marks (Whole ending) = IsShownEnding table book marks ending
IsShownLeaf table book marks (Begun duals covers) = AreDuals table book duals × AreFirstCovers table book marks duals covers

abbrev pub leaf_events : Leaf → List Event
leaf_events Untold = []
leaf_events (Whole ending) = ending_events ending
leaf_events (Begun duals covers) = bound_events duals covers

-- a log was told a front of what is shown of a leaf under these marks
pub record IsCutAtLeaf (table : CostTableSeen) (book : BookSeen) (marks : List Fact) (old new : LogShown) : Type 0 where
  pub part : Leaf
  pub shown : IsShownLeaf table book marks part
  pub front : NotesFront old new (leaf_events part)

-- a log was told a front of the first covers of a bound, all of which are shown
pub record IsCutAtCovers (table : CostTableSeen) (book : BookSeen) (marks : List Fact) (duals : List ℤ) (old new : LogShown) : Type 0 where
  pub covers : List Cover
  pub shown : AreFirstCovers table book marks duals covers
  pub front : NotesFront old new (cover_events 0 covers)

-- covers of the aircraft before k, with these values, are shown and told
pub record AreCoversBefore (table : CostTableSeen) (book : BookSeen) (marks : List Fact) (duals values : List ℤ) (k : ℕ) (old new : LogShown) : Type 0 where
  pub covers : List Cover
  pub count : length covers ≡ k
  pub shown : AreFirstCovers table book marks duals covers
  pub least : map (λ cover. cover.value) covers ≡ take k values
  pub told : Notes old new (cover_events 0 covers)

-- covers of all aircraft, with these values, are shown and told
pub record AreCoversOf (table : CostTableSeen) (book : BookSeen) (marks : List Fact) (duals values : List ℤ) (old new : LogShown) : Type 0 where
  pub covers : List Cover
  pub shown : IsShownBound table book marks duals covers
  pub least : map (λ cover. cover.value) covers ≡ values
  pub told : Notes old new (cover_events 0 covers)

-- a bound with these duals, and covers with these values, is shown and told
pub record IsBoundNoted (table : CostTableSeen) (book : BookSeen) (marks : List Fact) (duals values : List ℤ) (old new : LogShown) : Type 0 where
  pub covers : List Cover
  pub shown : IsShownBound table book marks duals covers
  pub least : map (λ cover. cover.value) covers ≡ values
  pub told : Notes old new (bound_events duals covers)

-- the answer of pricing a leaf is its end
abbrev pub AnswersLeaf : Ending → PricedLeaf → Type 0
AnswersLeaf (Stuck k family) leaf.Stuck = ⊤
AnswersLeaf (Bounded duals covers) (leaf.Bounded sum) = sum ≡ lagrangian duals (map (λ cover. cover.value) covers)
AnswersLeaf ending answer = ⊥

-- the leaf at this place was priced, and told with what shows it
pub record IsLeafPriced (table : CostTableSeen) (book : BookSeen) (here : Open) (old new : LogShown) (answer : PricedLeaf) : Type 0 where
  pub ending : Ending
  pub shown : IsShownEnding table book here.marks ending
  pub priced : IsPriced table book here ending
  pub answers : AnswersLeaf ending answer
  pub told : Notes old new (ending_events ending)

-- duals in the box, and least weights under them, are values that a line spells; so are duals that are all 0
abbrev pub DualsAreSpelled : Type 0
DualsAreSpelled = (table : CostTableSeen) (book : BookSeen) → IsCostTable table → IsTableFor book table → (duals : List ℤ)
    → AreDuals table book duals → All IsLineValue duals

abbrev pub LeastWeightsAreSpelled : Type 0
LeastWeightsAreSpelled = (table : CostTableSeen) (book : BookSeen) → IsBook book → IsCostTable table → IsTableFor book table
    → (marks : List Fact) (k : ℕ) (duals : List ℤ) (value : ℤ) → AreDuals table book duals → IsLeastWeight table book marks k duals value → IsLineValue value

abbrev pub ZerosAreDuals : Type 0
ZerosAreDuals = (table : CostTableSeen) (book : BookSeen) → AreDuals table book (zero_duals book)
