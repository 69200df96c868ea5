-- The duals of the places that a search opens are in the box: they are zeros at the root, and else those of a split.
use Rattle.std.proofs.Common.{◌≡◌, ℕ, List, [], ◌∷◌, ◌++◌, subst}
use Rattle.tail_book.specs.Seen.{BookSeen}
use Rattle.tail_book.specs.TableSeen.{CostTableSeen}
use Rattle.branch_marks.specs.declared.fact.Fact.{Fact}
use Rattle.branch_tree.specs.Counted.{IsCounted, IsEndOf}
use Rattle.node_leaves.specs.Growth.{Grows}
use Rattle.node_leaves.specs.Node.{Ending, Hole, Stuck, Bounded, Split, Node, branches, closed_marks}
use Rattle.node_leaves.specs.Place.{Open, root}
use Rattle.node_leaves.specs.inside.Leaf.{ZerosAreDuals}
use Rattle.branch_tree.specs.inside.SearchParts.{IsPlace, ArePlaces}

module _ (zeros : ZerosAreDuals) (table : CostTableSeen) (book : BookSeen) where
  branches_are : (marks : List Fact) (target : ℕ) (ending : Ending) (owed : List Open) → IsEndOf table book marks target ending
      → ArePlaces table book owed → ArePlaces table book (branches marks ending ++ owed)
  branches_are marks target (Hole a) owed is places = places
  branches_are marks target (Stuck k family) owed is places = places
  branches_are marks target (Bounded duals covers) owed is places = places
  branches_are marks target (Split pair duals routes dive) owed is places = (is.settled.in_box, (is.settled.in_box, places))

  places_are : (owed : List Open) (nodes : List Node) (left : List Open) → Grows (IsCounted table book) owed nodes left → ArePlaces table book owed
      → ArePlaces table book left
  unfolding Grows
  places_are owed [] left grows places = subst (λ (o : List Open). ArePlaces table book o) grows places
  places_are [] (node ∷ nodes) left grows places = absurd grows
  places_are (here ∷ owed) (node ∷ nodes) left grows places =
      let marks = closed_marks here node in
      places_are (branches marks node.ending ++ owed) nodes left grows.1 (branches_are marks node.target node.ending owed grows.0.ending places.1)

  -- those that are left by nodes from the root
  pub left_are : (nodes : List Node) (left : List Open) → Grows (IsCounted table book) (root book ∷ []) nodes left → ArePlaces table book left
  left_are nodes left grows = places_are (root book ∷ []) nodes left grows (zeros table book, tt)

  pub first_is : (nodes : List Node) (left : List Open) (here : Open) (rest : List Open) → Grows (IsCounted table book) (root book ∷ []) nodes left
      → left ≡ here ∷ rest → IsPlace table book here
  first_is nodes left here rest grows is = (subst (λ (o : List Open). ArePlaces table book o) is (left_are nodes left grows)).0
