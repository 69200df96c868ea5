-- Nodes that leave no place open are one proof tree for each owed place, with the same bounds and events. By induction on the
-- nodes: of the trees behind a node a split takes two off, and the node's steps go on top.
use Rattle.std.proofs.Common.{ℕ, ◌≡◌, ◌∙◌, List, [], ◌∷◌, ◌++◌, refl, sym, ap, subst, append_assoc, append-nil}
use Rattle.std.specs.Prelude.{⊤}
use Rattle.tail_book.specs.Seen.{BookSeen}
use Rattle.tail_book.specs.TableSeen.{CostTableSeen}
use Rattle.branch_marks.specs.declared.event.Event.{Event}
use Rattle.branch_marks.specs.declared.event.Event.TheVariants as told
use Rattle.branch_marks.specs.declared.fact.Fact.{Fact}
use Rattle.branch_marks.specs.Following.{FollowInTurn, FollowingFactsAreNew}
use Rattle.branch_marks.specs.ProofTree.{Tree, IsShown, BoundsAtLeast}
use Rattle.branch_marks.specs.ProofTree as tree
use Rattle.node_leaves.specs.Place.{Open}
use Rattle.node_leaves.specs.Node.{Ending, Hole, Stuck, Bounded, Split, Node, branches, closed_marks, IsShownEnding, IsBoundedBy, Bounds}
use Rattle.node_leaves.specs.Growth.{Grows}
use Rattle.branch_marks.specs.TreeEvents.{tree_events}
use Rattle.node_leaves.specs.NodeEvents.{step_events, ending_events, node_events, events_of}

module _ (table : CostTableSeen) (book : BookSeen) (low : ℕ) (new : FollowingFactsAreNew) where
  abbrev AreShown : List Open → List Tree → Type 0
  AreShown [] [] = ⊤
  AreShown [] (one ∷ trees) = ⊥
  AreShown (here ∷ owed) [] = ⊥
  AreShown (here ∷ owed) (one ∷ trees) = IsShown table book here.marks one × BoundsAtLeast low one × AreShown owed trees

  abbrev forest_events : List Tree → List Event
  forest_events [] = []
  forest_events (one ∷ trees) = tree_events one ++ forest_events trees

  -- a tree at the first place, and trees at the others, with these events
  abbrev AreTrees : List Fact → List Open → List Event → Type 0
  AreTrees marks owed due =
      (one : Tree) × (trees : List Tree) × IsShown table book marks one × BoundsAtLeast low one × AreShown owed trees × (tree_events one ++ forest_events trees ≡ due)

  at_end : (marks : List Fact) (ending : Ending) (owed : List Open) (trees : List Tree) → IsShownEnding table book marks ending → IsBoundedBy low ending
      → AreShown (branches marks ending ++ owed) trees → AreTrees marks owed (ending_events ending ++ forest_events trees)
  at_end marks (Hole a) owed trees shown bounded rest = (tree.Hole a, trees, shown, tt, rest, refl)
  at_end marks (Stuck k family) owed trees shown bounded rest = (tree.Stuck k family, trees, shown, tt, rest, refl)
  at_end marks (Bounded duals covers) owed trees shown bounded rest = (tree.Bounded duals covers, trees, shown, bounded, rest, refl)
  at_end marks (Split pair duals routes dive) owed [] shown bounded rest = absurd rest
  at_end marks (Split pair duals routes dive) owed (one ∷ []) shown bounded rest = absurd rest.2
  at_end marks (Split pair duals routes dive) owed (one ∷ other ∷ trees) shown bounded rest = (
    tree.Split pair one other,
    trees,
    (shown, rest.0, rest.2.0),
    (rest.1, rest.2.1),
    rest.2.2,
    ap (λ (es : List Event). told.Split pair ∷ es) (append_assoc (tree_events one) (tree_events other) (forest_events trees)),
  )

  with_steps : (marks steps : List Fact) (owed : List Open) (due : List Event) → FollowInTurn book marks steps
      → AreTrees (marks ++ steps) owed due → AreTrees marks owed (step_events steps ++ due)
  with_steps marks [] owed due follow trees = subst (λ (m : List Fact). AreTrees m owed due) (append-nil marks) trees
  with_steps marks (fact ∷ facts) owed due follow trees =
      let there = subst (λ (m : List Fact). AreTrees m owed due) (sym (append_assoc marks (fact ∷ []) facts)) trees in
      let more = with_steps (marks ++ fact ∷ []) facts owed due follow.1 there in
      (tree.Step fact more.0, more.1, (new book marks fact follow.0, follow.0, more.2), more.3, more.4, ap (λ (es : List Event). told.Fact fact ∷ es) more.5)

  forest : (owed : List Open) (nodes : List Node) → Grows (Bounds table book low) owed nodes []
      → (trees : List Tree) × AreShown owed trees × (forest_events trees ≡ events_of nodes)
  unfolding Grows events_of node_events
  forest owed [] grows = ([], subst (λ (o : List Open). AreShown o []) (sym grows) tt, refl)
  forest [] (node ∷ nodes) grows = absurd grows
  forest (here ∷ owed) (node ∷ nodes) grows =
      let marks = closed_marks here node in
      let rest = forest (branches marks node.ending ++ owed) nodes grows.1 in
      let ended = at_end marks node.ending owed rest.0 grows.0.shown.ending grows.0.bounded rest.1 in
      let whole = with_steps here.marks node.steps owed (ending_events node.ending ++ forest_events rest.0) grows.0.shown.steps ended in
      let same : step_events node.steps ++ (ending_events node.ending ++ forest_events rest.0) ≡ (step_events node.steps ++ ending_events node.ending) ++ events_of nodes =
      sym (append_assoc (step_events node.steps) (ending_events node.ending) (forest_events rest.0))
      ∙ ap (λ (es : List Event). (step_events node.steps ++ ending_events node.ending) ++ es) rest.2 in
      (whole.0 ∷ whole.1, (whole.2, whole.3, whole.4), whole.5 ∙ same)

  abbrev IsOneTree : List Fact → List Event → Type 0
  IsOneTree marks due = (one : Tree) × IsShown table book marks one × BoundsAtLeast low one × (tree_events one ≡ due)

  first_tree : (here : Open) (due : List Event) (trees : List Tree) → AreShown (here ∷ []) trees → forest_events trees ≡ due → IsOneTree here.marks due
  first_tree here due [] shown same = absurd shown
  first_tree here due (one ∷ []) shown same = (one, shown.0, shown.1, sym (append-nil (tree_events one)) ∙ same)
  first_tree here due (one ∷ more ∷ trees) shown same = absurd shown.2

  pub one_tree : (here : Open) (nodes : List Node) → Grows (Bounds table book low) (here ∷ []) nodes [] → IsOneTree here.marks (events_of nodes)
  one_tree here nodes grows = let f = forest (here ∷ []) nodes grows in first_tree here (events_of nodes) f.0 f.1 f.2
