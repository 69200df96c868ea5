-- The outcome of a grown tree is true. What it claims is at most the final target, and the bounds of the closing nodes reach
-- it; so the nodes are a proof tree whose bounds reach it, and that bounds every legal plan. A search tree is grown: its targets
-- fall to the final one, so each of them is at least that.
use Rattle.std.proofs.Common.{◌≤◌, ℕ, List, [], ◌∷◌, length, inl, inr, subst, arith}
use Rattle.std.proofs.lemmas.List.Elements.{All-contains_itself}
use Rattle.std.specs.Prelude.{All, Contains}
use Rattle.tail_book.specs.Seen.{BookSeen}
use Rattle.tail_book.specs.TableSeen.{CostTableSeen}
use Rattle.tail_book.specs.CostTable.{IsCostTable, IsTableFor}
use Rattle.tail_book.specs.inside.Sound.{IsBook}
use Rattle.tail_book.specs.inside.TableLaws.{LegalPlansCostAtMostIn}
use Rattle.tail_book.specs.Truth.{CostsAtLeastIn, IsTrueOutcomeIn}
use Rattle.tail_book.specs.declared.outcome.Outcome.{Outcome}
use Rattle.tail_book.specs.declared.outcome.Outcome.TheVariants.{Optimal, Infeasible, Between, Above}
use Rattle.branch_marks.specs.ProofTree.{ShownRootsBound}
use Rattle.branch_tree.specs.declared.limit.Limit.{Limit}
use Rattle.node_leaves.specs.Place.{root}
use Rattle.node_leaves.specs.Node.{Node, IsBoundedBy, Bounds}
use Rattle.node_leaves.specs.Growth.{Grows}
use Rattle.branch_tree.specs.Counted.{IsCounted}
use Rattle.branch_tree.specs.Closing.{IsClosing}
use Rattle.branch_tree.specs.GrownTree.{StandsOver, IsGrownTree}
use Rattle.branch_tree.specs.Laws.{claimed, GrownTreesAreBounded, ShownNodesAreTrees}
use Rattle.node_leaves.specs.Target.{no_target}
use Rattle.branch_tree.specs.SearchTree.{SearchTree, nodes_of, IsSearchTree, IsOutcomeOf}
use Rattle.node_leaves.proofs.Runs.{falls_over, grows_then, grows_weaker, grows_with}
use Rattle.branch_tree.proofs.Reaching.{stands_bounded, all_closed, all_above, lowest_below}

module _ (table : CostTableSeen) (book : BookSeen) (limit : Limit) where
  -- what the outcome claims is at most the final target, and the closing bounds reach it
  claims : (count : ℕ) (closing : List Node) (final : ℕ) (outcome : Outcome) → IsOutcomeOf table book limit count closing final outcome
      → (claimed table outcome ≤ final) × All (λ (node : Node). IsBoundedBy (claimed table outcome) node.ending) closing
  claims count closing final (Optimal plan cost) is =
      (omega (arith, is.1), subst (λ (c : ℕ). All (λ (node : Node). IsBoundedBy c node.ending) closing) is.1 (all_closed final closing is.2))
  claims count closing final Infeasible is =
      (omega (arith, is.0), subst (λ (c : ℕ). All (λ (node : Node). IsBoundedBy c node.ending) closing) is.0 (all_closed final closing is.1))
  claims count closing final (Between plan low high nodes) is =
      let less = lowest_below final low closing is.2 in (omega (arith, less), all_above final low closing is.2)
  claims count closing final (Above low nodes) is =
      let less = lowest_below final low closing is.1 in (omega (arith, less), all_above final low closing is.1)

  pub reach_claim : (outcome : Outcome) (count : ℕ) (closing nodes : List Node) → IsGrownTree table book limit outcome count closing nodes
      → Grows (Bounds table book (claimed table outcome)) (root book ∷ []) nodes []
  reach_claim outcome count closing nodes is =
      let low = claimed table outcome in
      let claim = claims count closing is.final outcome is.answered in
      grows_weaker (StandsOver table book is.final closing) (Bounds table book low) (stands_bounded table book low is.final claim.0 closing claim.1)
      (root book ∷ []) nodes [] is.grown

  pub search_grown : (outcome : Outcome) (tree : SearchTree) → IsSearchTree table book limit outcome tree
      → IsGrownTree table book limit outcome (length tree.counted) tree.closing (nodes_of tree)
  search_grown outcome tree is =
      let over = StandsOver table book is.final tree.closing in
      let counted = grows_with (IsCounted table book) over (λ node. is.final ≤ node.target) (λ here node h above. inl (h, above))
      (root book ∷ []) tree.counted is.left is.grown (falls_over (no_target table) tree.counted is.final is.falls) in
      let closing = grows_with (IsClosing table book is.final) over (Contains tree.closing) (λ here node h among. inr (h, among))
      is.left tree.closing [] is.closed (All-contains_itself tree.closing) in
      record {
        final = is.final;
        grown = grows_then over (root book ∷ []) tree.counted is.left tree.closing [] counted closing;
        answered = is.answered;
      }

  module _ (sound : IsBook book) (costs : IsCostTable table) (for_book : IsTableFor book table) (most : LegalPlansCostAtMostIn) where
    by_cases : (count : ℕ) (closing : List Node) (final : ℕ) (outcome : Outcome) → IsOutcomeOf table book limit count closing final outcome
        → CostsAtLeastIn table book (claimed table outcome) → IsTrueOutcomeIn table book outcome
    by_cases count closing final (Optimal plan cost) is least = record { claim = ((plan, is.0), least); plan = is.0 }
    by_cases count closing final Infeasible is least = record {
      claim = λ plan legal. let low = least plan legal in let high = most book table sound costs for_book plan legal in omega (arith, low, high);
      plan = tt;
    }
    by_cases count closing final (Between plan low high nodes) is least =
        let less = lowest_below final low closing is.2 in record { claim = (omega (arith, less, is.1), (plan, is.0), least); plan = is.0 }
    by_cases count closing final (Above low nodes) is least = record { claim = least; plan = tt }

    pub outcome_true : (trees : ShownNodesAreTrees) (bound : ShownRootsBound) (bounded : GrownTreesAreBounded) (outcome : Outcome) (count : ℕ)
        → (closing nodes : List Node) → IsGrownTree table book limit outcome count closing nodes → IsTrueOutcomeIn table book outcome
    outcome_true trees bound bounded outcome count closing nodes is =
        let low = claimed table outcome in
        let shown = trees table book low nodes (bounded table book limit outcome count closing nodes is) in
        by_cases count closing is.final outcome is.answered (bound table book sound shown.0 low shown.1 shown.2)
