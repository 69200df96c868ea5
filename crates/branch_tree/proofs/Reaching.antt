-- Which bounds the nodes of a grown tree reach: counted ones the final target, since theirs is at least that, and closing ones
-- too, or the least bound that is left.
use Rattle.std.proofs.Common.{◌≤◌, ◌<◌, ◌*◌, ◌+◌, ◌/◌, ◌⊎◌, inl, inr, ℕ, List, Some, None, refl, arith}
use Rattle.std.proofs.lemmas.List.Elements.{All-contains, All-weaker}
use Rattle.std.proofs.lemmas.Bool.{cases_order}
use Rattle.std.specs.Prelude.{All}
use Rattle.tail_book.specs.Seen.{BookSeen}
use Rattle.tail_book.specs.TableSeen.{CostTableSeen}
use Rattle.branch_marks.specs.declared.fact.Fact.{Fact}
use Rattle.branch_marks.specs.ProofTree.{leaf_bound}
use Rattle.node_leaves.specs.Place.{Open}
use Rattle.node_leaves.specs.Node.{Ending, Node, closed_marks, IsBoundedBy, Bounds, Hole, Stuck, Bounded, Split}
use Rattle.branch_marks.specs.Bound.{Passes}
use Rattle.node_leaves.specs.Target.{bound_under}
use Rattle.branch_tree.specs.Counted.{IsEndOf}
use Rattle.branch_tree.specs.Closing.{IsLeftAt, IsLowest}
use Rattle.branch_tree.specs.GrownTree.{StandsOver}

-- a bound that passes what is below the target rounds up to the target, and one that does not stays below it
passes_up : (bound target : ℕ) → Passes bound target → target ≤ (bound + 999) / 1000
passes_up bound target h = omega (arith, h)

left_below : (bound target : ℕ) → ¬ Passes bound target → (bound + 999) / 1000 < target
left_below bound target h = elim (cases_order (1000 * target) (bound + 1000)) [
  | inl e ↦ omega (arith, e)
  | inr o ↦ elim o [ inl lt ↦ absurd (h lt) | inr gt ↦ omega (arith, gt) ]
]

pub passes_or : (bound target : ℕ) → Passes bound target ⊎ (¬ Passes bound target)
passes_or bound target = elim (cases_order (1000 * target) (bound + 1000)) [
  | inl e ↦ inr (λ h. omega (arith, e, h))
  | inr o ↦ elim o [ inl lt ↦ inl lt | inr gt ↦ inr (λ h. omega (arith, gt, h)) ]
]

module _ (table : CostTableSeen) (book : BookSeen) where
  end_bounded : (marks : List Fact) (target low : ℕ) (ending : Ending) → IsEndOf table book marks target ending → low ≤ target → IsBoundedBy low ending
  end_bounded marks target low (Hole a) is lower = tt
  end_bounded marks target low (Stuck k family) is lower = tt
  end_bounded marks target low (Bounded duals covers) is lower = let up = passes_up (bound_under duals covers) target is.1 in omega (arith, up, lower)
  end_bounded marks target low (Split pair duals routes dive) is lower = tt

  -- the bound of a counted node reaches its target, and that of a closing node what each of them reaches
  pub stands_bounded : (low final : ℕ) → low ≤ final → (closing : List Node) → All (λ (node : Node). IsBoundedBy low node.ending) closing
      → (here : Open) (node : Node) → StandsOver table book final closing here node → Bounds table book low here node
  stands_bounded low final lower closing all here node stands = elim stands [
    | inl is ↦ record {
      shown = is.0.shown;
      bounded = end_bounded (closed_marks here node) node.target low node.ending is.0.ending (omega (arith, is.1, lower));
    }
    | inr is ↦ record { shown = is.0.shown; bounded = All-contains (λ (n : Node). IsBoundedBy low n.ending) closing node all is.1 }
  ]

-- where no closing node is left, each reaches the final target
none_left : (final : ℕ) (ending : Ending) → ((bound : ℕ) → ¬ IsLeftAt final ending bound) → IsBoundedBy final ending
none_left final (Hole a) h = tt
none_left final (Stuck k family) h = tt
none_left final (Split pair duals routes dive) h = tt
none_left final (Bounded duals covers) h = elim (passes_or (bound_under duals covers) final) [
  | inl p ↦ passes_up (bound_under duals covers) final p
  | inr n ↦ absurd (h (leaf_bound duals covers) (n, refl))
]

pub all_closed : (final : ℕ) (nodes : List Node) → IsLowest final nodes None → All (λ (node : Node). IsBoundedBy final node.ending) nodes
all_closed final nodes none = All-weaker (λ (node : Node). (bound : ℕ) → ¬ IsLeftAt final node.ending bound) (λ (node : Node). IsBoundedBy final node.ending)
    (λ node h. none_left final node.ending h) nodes none

-- where the least one that is left is low, each reaches low
some_left : (final low : ℕ) → low ≤ final → (ending : Ending) → ((bound : ℕ) → IsLeftAt final ending bound → low ≤ bound) → IsBoundedBy low ending
some_left final low lower (Hole a) h = tt
some_left final low lower (Stuck k family) h = tt
some_left final low lower (Split pair duals routes dive) h = tt
some_left final low lower (Bounded duals covers) h = elim (passes_or (bound_under duals covers) final) [
  | inl p ↦ (let up = passes_up (bound_under duals covers) final p in omega (arith, up, lower))
  | inr n ↦ h (leaf_bound duals covers) (n, refl)
]

left_lower : (final low : ℕ) (ending : Ending) → IsLeftAt final ending low → low < final
left_lower final low (Hole a) h = absurd h
left_lower final low (Stuck k family) h = absurd h
left_lower final low (Split pair duals routes dive) h = absurd h
left_lower final low (Bounded duals covers) h = let less = left_below (bound_under duals covers) final h.0 in omega (arith, less, h.1)

pub lowest_below : (final low : ℕ) (nodes : List Node) → IsLowest final nodes (Some low) → low < final
lowest_below final low nodes lowest = left_lower final low lowest.0.1.ending lowest.0.4

pub all_above : (final low : ℕ) (nodes : List Node) → IsLowest final nodes (Some low) → All (λ (node : Node). IsBoundedBy low node.ending) nodes
all_above final low nodes lowest =
    let less = lowest_below final low nodes lowest in
    let lower : low ≤ final = omega (arith, less) in
    All-weaker (λ (node : Node). (bound : ℕ) → IsLeftAt final node.ending bound → low ≤ bound) (λ (node : Node). IsBoundedBy low node.ending)
    (λ node h. some_left final low lower node.ending h) nodes lowest.1
