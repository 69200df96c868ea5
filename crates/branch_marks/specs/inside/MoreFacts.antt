-- More facts leave fewer routes that fit: so who is stuck stays stuck, and least weights and the bounds that they give never fall.
use Rattle.std.specs.Prelude.{ℕ, ℤ, ◌≤◌, ◌≤ℤ◌, List, ◌++◌, All, Contains}
use Rattle.tail_book.specs.Seen.{BookSeen}
use Rattle.tail_book.specs.TableSeen.{CostTableSeen}
use Rattle.tail_book.specs.declared.place.Place.{Place}
use Rattle.branch_marks.specs.declared.fact.Fact.{Fact}
use Rattle.branch_marks.specs.Marks.{IsAlive, IsUsable, MayEnd, Fits}
use Rattle.branch_marks.specs.DeadEnds.{IsStuck}
use Rattle.branch_marks.specs.Weights.{WeighsAtLeast, IsLeastWeight}
use Rattle.branch_marks.specs.Bound.{AreLowWeights, AreLeastWeights, lagrangian, bound_of, rounded_up}
use Rattle.branch_marks.specs.Settled.{IsSum}

-- each of the fewer facts is one of the more, in whatever order and however often
abbrev pub AreAmong : List Fact → List Fact → Type 0
AreAmong fewer more = All (Contains more) fewer

-- the law of facts among others: those to which facts are added at the end are among all of them, and what is among
-- facts that are among others is among those
pub record AmongMore : Type 0 where
  pub added : (marks facts : List Fact) → AreAmong marks (marks ++ facts)
  pub chain : (marks middle more : List Fact) → AreAmong marks middle → AreAmong middle more → AreAmong marks more

-- the more facts open nothing: what is alive, what is usable, where an aircraft may end, and which routes fit was so by the fewer
pub record OpensNothing (book : BookSeen) (fewer more : List Fact) : Type 0 where
  pub alive : (k a : ℕ) → IsAlive book more k a → IsAlive book fewer k a
  pub usable : (k : ℕ) (x : Place) (b : ℕ) → IsUsable book more k x b → IsUsable book fewer k x b
  pub ends : (k : ℕ) (x : Place) → MayEnd more k x → MayEnd fewer k x
  pub routes : (k : ℕ) (route : List ℕ) → Fits book more k route → Fits book fewer k route

-- so it is wherever the fewer are among the more
abbrev pub MoreFactsOpenNothing : Type 0
MoreFactsOpenNothing = (book : BookSeen) (fewer more : List Fact) → AreAmong fewer more → OpensNothing book fewer more

-- a stuck aircraft stays stuck
abbrev pub StuckStays : Type 0
StuckStays = (book : BookSeen) (fewer more : List Fact) → AreAmong fewer more → (k : ℕ) → IsStuck book fewer k → IsStuck book more k

-- what every legal route that fits weighs at least, every one that still fits does
abbrev pub LowWeightsStay : Type 0
LowWeightsStay = (table : CostTableSeen) (book : BookSeen) (fewer more : List Fact) → AreAmong fewer more → (k : ℕ) (duals : List ℤ) (low : ℤ)
    → WeighsAtLeast table book fewer k duals low → WeighsAtLeast table book more k duals low

-- so the least weight of an aircraft never falls
abbrev pub LeastWeightsNeverFall : Type 0
LeastWeightsNeverFall = (table : CostTableSeen) (book : BookSeen) (fewer more : List Fact) → AreAmong fewer more → (k : ℕ) (duals : List ℤ) (old new : ℤ)
    → IsLeastWeight table book fewer k duals old → IsLeastWeight table book more k duals new → old ≤ℤ new

-- the old sum is at most the new one: as it is, as a bound in thousandths, and as one in cost units
pub record HasNotFallen (old new : ℤ) : Type 0 where
  pub sum : old ≤ℤ new
  pub bound : bound_of old ≤ bound_of new
  pub rounded : rounded_up old ≤ rounded_up new

-- the Lagrangian sum of duals and low weights never passes that of the same duals and the least weights by more facts
abbrev pub BoundsNeverFall : Type 0
BoundsNeverFall = (table : CostTableSeen) (book : BookSeen) (fewer more : List Fact) → AreAmong fewer more → (duals old new : List ℤ)
    → AreLowWeights table book fewer duals old → AreLeastWeights table book more duals new → HasNotFallen (lagrangian duals old) (lagrangian duals new)

-- so the sum of the duals and the least weights never falls
abbrev pub SumsNeverFall : Type 0
SumsNeverFall = (table : CostTableSeen) (book : BookSeen) (fewer more : List Fact) → AreAmong fewer more → (duals : List ℤ) (old new : ℤ)
    → IsSum table book fewer duals old → IsSum table book more duals new → HasNotFallen old new
