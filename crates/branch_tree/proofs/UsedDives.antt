-- No dive ended with a plan cheaper than the final target: the target of its own node is at most that, and targets only fall.
use Rattle.std.proofs.Common.{◌≤◌, ℕ, List, [], ◌∷◌, ◌++◌, arith}
use Rattle.std.proofs.lemmas.List.Elements.{All-nil, All-cons}
use Rattle.std.specs.Prelude.{All}
use Rattle.tail_book.specs.Seen.{BookSeen}
use Rattle.tail_book.specs.TableSeen.{CostTableSeen}
use Rattle.branch_marks.specs.declared.fact.Fact.{Fact}
use Rattle.dive_heuristic.specs.declared.answer.Dive.{Dive}
use Rattle.dive_heuristic.specs.declared.answer.Dive.TheVariants.{Plan, Dead}
use Rattle.node_leaves.specs.Place.{Open}
use Rattle.node_leaves.specs.Node.{Ending, Hole, Stuck, Bounded, Split, Node, branches, closed_marks}
use Rattle.node_leaves.specs.Growth.{Grows}
use Rattle.node_leaves.specs.Target.{HasUsed, HasUsedDive, FallsTo}
use Rattle.branch_tree.specs.Counted.{IsCounted, IsEndOf}
use Rattle.node_leaves.proofs.Runs.{falls_below}

used_later : (final target : ℕ) (dive : Dive) → HasUsed target dive → final ≤ target → HasUsed final dive
used_later final target (Plan plan cost) used lower = omega (arith, used, lower)
used_later final target (Dead steps end) used lower = tt

module _ (table : CostTableSeen) (book : BookSeen) (final : ℕ) where
  ending_used : (marks : List Fact) (target : ℕ) (ending : Ending) → IsEndOf table book marks target ending → final ≤ target → HasUsedDive final ending
  ending_used marks target (Hole a) is lower = tt
  ending_used marks target (Stuck k family) is lower = tt
  ending_used marks target (Bounded duals covers) is lower = tt
  ending_used marks target (Split pair duals routes dive) is lower = used_later final target dive is.used lower

  pub counted_used : (owed : List Open) (nodes : List Node) (left : List Open) (first : ℕ)
      → Grows (IsCounted table book) owed nodes left → FallsTo first nodes final → All (λ (node : Node). HasUsedDive final node.ending) nodes
  unfolding Grows FallsTo
  counted_used owed [] left first grows falls = All-nil (λ (node : Node). HasUsedDive final node.ending)
  counted_used [] (node ∷ nodes) left first grows falls = absurd grows
  counted_used (here ∷ owed) (node ∷ nodes) left first grows falls =
      All-cons (λ (n : Node). HasUsedDive final n.ending) node nodes
      (ending_used (closed_marks here node) node.target node.ending grows.0.ending (falls_below node.target nodes final falls.1))
      (counted_used (branches (closed_marks here node) node.ending ++ owed) nodes left node.target grows.1 falls.1)
