-- How many places are open at most. Behind each open place stand so many others that with the pairs which its marks leave undecided
-- they are no more than the pairs which no facts leave undecided: a split puts one place more behind its first branch, and this
-- branch leaves at least one pair less.
use Rattle.std.proofs.Common.{◌≤◌, ◌+◌, ℕ, List, [], ◌∷◌, ◌++◌, length, arith, subst}
use Rattle.std.specs.Prelude.{⊤}
use Rattle.tail_book.specs.Seen.{BookSeen}
use Rattle.tail_book.specs.TableSeen.{CostTableSeen}
use Rattle.branch_marks.specs.declared.fact.Fact.{Fact}
use Rattle.branch_marks.specs.inside.BranchTests.{undecided, FactsLeaveNoMore, BranchesLeaveFewer}
use Rattle.node_leaves.specs.Growth.{Grows}
use Rattle.node_leaves.specs.Node.{Ending, Hole, Stuck, Bounded, Split, Node, branches, closed_marks, IsShownEnding, IsShownNode}
use Rattle.node_leaves.specs.Place.{Open, root}
use Rattle.branch_tree.proofs.Room.{steps_leave}

module _ (no_more : FactsLeaveNoMore) (fewer : BranchesLeaveFewer) (table : CostTableSeen) (book : BookSeen) (most : ℕ) where
  AreFew : List Open → Type 0
  AreFew [] = ⊤
  AreFew (here ∷ behind) = (undecided book here.marks + length behind ≤ most) × AreFew behind

  branches_few : (marks : List Fact) (ending : Ending) (behind : List Open) → IsShownEnding table book marks ending
      → undecided book marks + length behind ≤ most → AreFew behind → AreFew (branches marks ending ++ behind)
  unfolding AreFew
  branches_few marks (Hole a) behind shown here few = few
  branches_few marks (Stuck k family) behind shown here few = few
  branches_few marks (Bounded duals covers) behind shown here few = few
  branches_few marks (Split pair duals routes dive) behind shown here few =
      let less = fewer book marks pair shown in (omega (arith, less.0, here), (omega (arith, less.1, here), few))

  places_few : (owed : List Open) (nodes : List Node) (left : List Open) → Grows (IsShownNode table book) owed nodes left → AreFew owed → AreFew left
  unfolding Grows AreFew
  places_few owed [] left grows few = subst (λ (o : List Open). AreFew o) grows few
  places_few [] (node ∷ nodes) left grows few = absurd grows
  places_few (here ∷ owed) (node ∷ nodes) left grows few =
      let marks = closed_marks here node in
      let steps = steps_leave no_more fewer table book here.marks node.steps in
      places_few (branches marks node.ending ++ owed) nodes left grows.1 (branches_few marks node.ending owed grows.0.ending (omega (arith, steps, few.0)) few.1)

  count_few : (left : List Open) → AreFew left → length left ≤ most + 1
  unfolding AreFew
  count_few [] few = omega arith
  count_few (here ∷ behind) few = omega (arith, few.0)

  pub few_left : (nodes : List Node) (left : List Open) → undecided book [] ≤ most → Grows (IsShownNode table book) (root book ∷ []) nodes left → length left ≤ most + 1
  unfolding AreFew
  few_left nodes left le grows = count_few left (places_few (root book ∷ []) nodes left grows (omega (arith, le), tt))
