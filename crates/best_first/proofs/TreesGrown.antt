-- A best-first tree is a grown tree. Without their ranks its places and nodes lead from the root to no place, since what a node opens are
-- its branches; each counted node has a target that is at least the final one, and each other is one of the closing nodes.
use Rattle.std.proofs.Common.{◌≡◌, ◌∙◌, ◌≤◌, ◌+◌, ℕ, ℤ, List, [], ◌∷◌, ◌++◌, inl, inr, map, Option, Some, None, refl, sym, ap, subst, arith}
use Rattle.std.specs.Prelude.{All, Contains}
use Rattle.std.proofs.lemmas.List.{map-append}
use Rattle.std.proofs.lemmas.List.Elements.{All-nil, All-cons, All-head, All-tail, Contains-append_left, Contains-append_right}
use Rattle.tail_book.specs.Seen.{BookSeen}
use Rattle.tail_book.specs.TableSeen.{CostTableSeen}
use Rattle.tail_book.specs.declared.outcome.Outcome.{Outcome}
use Rattle.branch_marks.specs.declared.fact.Fact.{Fact}
use Rattle.node_leaves.specs.Growth.{Grows}
use Rattle.node_leaves.specs.Node.{Ending, Hole, Stuck, Bounded, Split, Node, branches, closed_marks}
use Rattle.node_leaves.specs.Place.{Open}
use Rattle.node_leaves.specs.Priced.{IsPriced}
use Rattle.branch_tree.specs.declared.limit.Limit.{Limit}
use Rattle.branch_tree.specs.GrownTree.{StandsOver, IsGrownTree}
use Rattle.best_first.specs.Order.{Standing, IsOver}
use Rattle.best_first.specs.BestTree.{Owed, owed_root, Laid, Turn, StandsAt, IsTurnAt, opened_by, closing_node, closing_of, count_of, standing_of, count_in, IsBestTree}
use Rattle.best_first.specs.BestTree.{nodes_of}

abbrev pub places : List Owed → List Open
places owed = map (λ (here : Owed). here.place) owed

opened_branches : (marks : List Fact) (ending : Ending) (bound : ℤ) (since : ℕ) → places (opened_by marks ending bound since) ≡ branches marks ending
opened_branches marks (Hole a) bound since = refl
opened_branches marks (Stuck k family) bound since = refl
opened_branches marks (Bounded duals covers) bound since = refl
opened_branches marks (Split pair duals routes dive) bound since = refl

module _ (table : CostTableSeen) (book : BookSeen) (final : ℕ) where
  no_branches : (here : Open) (marks : List Fact) (ending : Ending) → IsPriced table book here ending → branches marks ending ≡ []
  no_branches here marks (Hole a) is = refl
  no_branches here marks (Stuck k family) is = refl
  no_branches here marks (Bounded duals covers) is = refl
  no_branches here marks (Split pair duals routes dive) is = absurd is

  -- what a node of the tree opens are its branches
  pub turn_opens : (here : Open) (number : Option ℕ) (bound : ℤ) (node : Node) (opened : List Owed) → IsTurnAt table book final here number bound node opened
      → places opened ≡ branches (closed_marks here node) node.ending
  turn_opens here None bound node opened is =
      ap (λ (o : List Owed). places o) is.1 ∙ sym (no_branches here (closed_marks here node) node.ending is.0.priced)
  turn_opens here (Some number) bound node opened is =
      ap (λ (o : List Owed). places o) is.2 ∙ opened_branches (closed_marks here node) node.ending bound (number + 1)

  module _ (Over : Open → Node → Type 0) (P : Turn → Type 0)
      (each : (here : Owed) (turn : Turn) (opened : List Owed) → StandsAt table book final here turn opened → P turn
      → Over here.place turn.node × (places opened ≡ branches (closed_marks here.place turn.node) turn.node.ending)) where
    pub grows_under : (owed : List Owed) (tree : List Turn) (left : List Owed) → Laid (StandsAt table book final) owed tree left → All P tree
        → Grows Over (places owed) (nodes_of tree) (places left)
    unfolding Laid Grows
    grows_under owed [] left one all = ap (λ (o : List Owed). places o) one
    grows_under [] (turn ∷ tree) left one all = absurd one
    grows_under (here ∷ owed) (turn ∷ tree) left one all =
        let over = each here turn one.0 one.1 (All-head P turn tree all) in
        let same : places (one.0 ++ owed) ≡ branches (closed_marks here.place turn.node) turn.node.ending ++ places owed =
        map-append (λ (o : Owed). o.place) one.0 owed ∙ ap (λ (o : List Open). o ++ places owed) over.1 in (
          over.0,
          subst (λ (o : List Open). Grows Over o (nodes_of tree) (places left)) same (grows_under (one.0 ++ owed) tree left one.2 (All-tail P turn tree all)),
        )

  module _ (closing : List Node) where
    IsThere : Option ℕ → Node → Type 0
    IsThere None node = Contains closing node
    IsThere (Some number) node = final ≤ node.target

    abbrev IsThereAt : Turn → Type 0
    IsThereAt turn = IsThere turn.number turn.node

    stands_over : (here : Open) (number : Option ℕ) (bound : ℤ) (node : Node) (opened : List Owed) → IsTurnAt table book final here number bound node opened
        → IsThere number node → StandsOver table book final closing here node
    unfolding IsThere
    stands_over here None bound node opened is there = inr (is.0, there)
    stands_over here (Some number) bound node opened is there = inl (is.0, there)

    laid_grows : (owed : List Owed) (tree : List Turn) (left : List Owed) → Laid (StandsAt table book final) owed tree left → All IsThereAt tree
        → Grows (StandsOver table book final closing) (places owed) (nodes_of tree) (places left)
    laid_grows owed tree left laid all =
        grows_under (StandsOver table book final closing) IsThereAt
        (λ here turn opened is there. (
          stands_over here.place turn.number turn.bound turn.node opened is.is there,
          turn_opens here.place turn.number turn.bound turn.node opened is.is,
        )) owed tree left laid all

    there_at : (number : Option ℕ) (node : Node) (rest : List Node) → IsOver final (count_of number node.target)
        → ((n : Node) → Contains (closing_node number node ++ rest) n → Contains closing n) → IsThere number node
    unfolding IsThere
    there_at None node rest over among = among node (Contains-append_left (node ∷ []) rest node (0, omega arith, refl))
    there_at (Some number) node rest over among = over

    all_there : (tree : List Turn) → All (λ (one : Standing). IsOver final one.counted) (map standing_of tree)
        → ((n : Node) → Contains (closing_of tree) n → Contains closing n) → All IsThereAt tree
    unfolding closing_of
    all_there [] over among = All-nil IsThereAt
    all_there (turn ∷ tree) over among =
        let P = λ (one : Standing). IsOver final one.counted in
        All-cons IsThereAt turn tree
        (there_at turn.number turn.node (closing_of tree) (All-head P (standing_of turn) (map standing_of tree) over) among)
        (all_there tree (All-tail P (standing_of turn) (map standing_of tree) over)
        (λ n has. among n (Contains-append_right (closing_node turn.number turn.node) (closing_of tree) n has)))

pub tree_grown : (table : CostTableSeen) (book : BookSeen) (limit : Limit) (outcome : Outcome) (tree : List Turn)
    → IsBestTree table book limit outcome tree → IsGrownTree table book limit outcome (count_in tree) (closing_of tree) (nodes_of tree)
tree_grown table book limit outcome tree is = record {
  final = is.final;
  grown = laid_grows table book is.final (closing_of tree) (owed_root book ∷ []) tree [] is.laid
      (all_there table book is.final (closing_of tree) tree is.over (λ n has. has));
  answered = is.answered;
}
