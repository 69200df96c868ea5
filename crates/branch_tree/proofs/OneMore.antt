-- One node more, in the words of the two passes. A visit is a counted node whose branches come before the other places;
-- a closing is a node without steps, after which the least bound is that of one node more. A stop behind a node that was
-- told leaves a begun tree of that node alone.
use Rattle.std.proofs.Common.{◌≡◌, ◌∙◌, ℕ, ℤ, List, [], ◌∷◌, ◌++◌, Option, sym, ap, subst}
use Rattle.tail_book.specs.Seen.{BookSeen}
use Rattle.tail_book.specs.TableSeen.{CostTableSeen}
use Rattle.branch_marks.specs.declared.event.Event.{Event}
use Rattle.branch_marks.specs.declared.fact.Fact.{Fact}
use Rattle.branch_marks.specs.LogShown.{LogShown}
use Rattle.branch_marks.specs.TreeLog.{Notes}
use Rattle.node_leaves.specs.declared.leaf.PricedLeaf.{PricedLeaf}
use Rattle.branch_tree.specs.declared.step.Step.{Step}
use Rattle.branch_tree.specs.Closing.{IsLowest}
use Rattle.node_leaves.specs.Node.{Node, branches, closed_marks, IsShownNode}
use Rattle.node_leaves.specs.Place.{Open}
use Rattle.branch_tree.specs.Step.{IsVisit}
use Rattle.node_leaves.specs.Stops.{StopsIn}
use Rattle.node_leaves.specs.inside.Leaf.{AnswersLeaf, IsLeafPriced}
use Rattle.branch_tree.specs.inside.SearchParts.{IsVisited, IsOneClosed}
use Rattle.branch_tree.proofs.LeastLeft.{closing_node, closing_events, is_closing}
use Rattle.node_leaves.proofs.Runs.{grows_one, events_one}
use Rattle.branch_tree.proofs.Stopping.{stops_between}

module _ (table : CostTableSeen) (book : BookSeen) (here : Open) (old new : LogShown) where
  pub visit_of : (marks : List Fact) (duals : List ℤ) (target : ℕ) (answer : Step) (visit : IsVisit table book here marks duals target old new answer)
      (others places : List Open) → places ≡ branches marks visit.node.ending ++ others → IsVisited table book here others places target old new
  visit_of marks duals target answer visit others places opened = record {
    node = visit.node;
    counted = visit.counted;
    goal = visit.goal;
    left = opened ∙ ap (λ (m : List Fact). branches m visit.node.ending ++ others) visit.closed;
    told = visit.told;
  }

  -- the whole node was told
  pub visit_stops : (marks : List Fact) (duals : List ℤ) (target : ℕ) (answer : Step) → IsVisit table book here marks duals target old new answer
      → StopsIn old new table book (here ∷ [])
  visit_stops marks duals target answer visit =
      let node = visit.node in
      let told = subst (λ (due : List Event). Notes old new due) (sym (events_one node)) visit.told in
      stops_between table book old new (here ∷ []) (node ∷ []) (branches (closed_marks here node) node.ending ++ [])
      (grows_one (IsShownNode table book) here [] node visit.counted.shown) told

  pub closing_of : (target : ℕ) (low least : Option ℕ) (answer : PricedLeaf) → IsLeafPriced table book here old new answer
      → ((nodes : List Node) (node : Node) → IsLowest target nodes low → AnswersLeaf node.ending answer → IsLowest target (nodes ++ node ∷ []) least)
      → IsOneClosed table book target here low least old new
  closing_of target low least answer priced lower = record {
    node = closing_node table book target priced.ending;
    closing = is_closing table book target here priced.ending priced.shown priced.priced;
    lowest = λ nodes lowest. lower nodes (closing_node table book target priced.ending) lowest priced.answers;
    told = subst (λ (due : List Event). Notes old new due) (closing_events table book target priced.ending) priced.told;
  }
