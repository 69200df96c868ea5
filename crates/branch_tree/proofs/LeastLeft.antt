-- The least bound that is left, one closing node more. A leaf that is stuck, or whose bound reaches the target, is not
-- left and changes nothing. Any other leaves exactly one bound, which becomes the least where it is lower or the first.
-- Then the two passes are the tree of a search. The one thing to show is that an outcome with a bound comes at the
-- limit: something is left, so there was a closing node, so a place was open, and the first pass stopped at the limit.
use Rattle.std.proofs.Common.{◌≡◌, ◌∙◌, ◌≤◌, ◌<◌, ◌⊎◌, inl, inr, ℕ, ℤ, List, [], ◌∷◌, ◌++◌, length, Option, Some, None, refl, sym, ap, subst, arith, append-nil}
use Rattle.std.proofs.lemmas.List.{length-append, get_or_append_left}
use Rattle.std.proofs.lemmas.List.Elements.{All-push, All-weaker, All-nil}
use Rattle.std.proofs.lemmas.List.Quantifiers.{Any-push}
use Rattle.std.specs.Prelude.{Any}
use Rattle.tail_book.specs.Seen.{BookSeen}
use Rattle.tail_book.specs.TableSeen.{CostTableSeen}
use Rattle.tail_book.specs.declared.outcome.Outcome.{Outcome}
use Rattle.tail_book.specs.declared.outcome.Outcome.TheVariants.{Optimal, Infeasible, Between, Above}
use Rattle.branch_marks.specs.declared.fact.Fact.{Fact}
use Rattle.branch_marks.specs.Bound.{bound_of, rounded_up, Passes}
use Rattle.node_leaves.specs.declared.leaf.PricedLeaf.TheVariants as leaf
use Rattle.branch_tree.specs.declared.limit.Limit.{Limit}
use Rattle.branch_tree.specs.declared.limit.Limit.TheVariants.{Free, Nodes}
use Rattle.branch_tree.specs.Closing.{IsClosing, IsLeftAt, IsLowest}
use Rattle.node_leaves.specs.Priced.{IsPriced}
use Rattle.branch_tree.specs.Counted.{IsCounted}
use Rattle.node_leaves.specs.Growth.{Grows}
use Rattle.node_leaves.specs.Node.{Ending, Hole, Stuck, Bounded, Split, Node, branches, IsShownEnding}
use Rattle.node_leaves.specs.NodeEvents.{ending_events, node_events}
use Rattle.node_leaves.specs.Place.{Open, root}
use Rattle.branch_tree.specs.Search.{EndsUnder}
use Rattle.branch_tree.specs.SearchTree.{HasReached, IsWithin, IsOutcomeOf, IsSearchTree}
use Rattle.node_leaves.specs.Target.{no_target, IsBest, FallsTo}
use Rattle.node_leaves.specs.inside.Leaf.{AnswersLeaf}
use Rattle.branch_tree.specs.inside.SearchParts.{Counts, HasStopped, outcome_for}

-- one that does not is left
pub bound_left : (final units : ℕ) (sum : ℤ) (ending : Ending) → AnswersLeaf ending (leaf.Bounded sum) → ¬ Passes (bound_of sum) final → units ≡ rounded_up sum
    → IsLeftAt final ending units
bound_left final units sum (Hole a) answers not_passes is = absurd answers
bound_left final units sum (Stuck k family) answers not_passes is = absurd answers
bound_left final units sum (Bounded duals covers) answers not_passes is =
    ((λ passes. not_passes (subst (λ (z : ℤ). Passes (bound_of z) final) (sym answers) passes)), is ∙ ap (λ (z : ℤ). rounded_up z) answers)
bound_left final units sum (Split pair duals routes dive) answers not_passes is = absurd answers

only_one : (final a b : ℕ) (ending : Ending) → IsLeftAt final ending a → IsLeftAt final ending b → a ≡ b
only_one final a b (Hole x) one two = absurd one
only_one final a b (Stuck k family) one two = absurd one
only_one final a b (Split pair duals routes dive) one two = absurd one
only_one final a b (Bounded duals covers) one two = one.1 ∙ sym two.1

-- what holds of one of some holds of one of more
any_before : {X : Type 0} (P : X → Type 0) (xs ys : List X) → Any P xs → Any P (xs ++ ys)
any_before P xs ys any =
    let e = length-append xs ys in
    (any.0, any.1, omega (arith, e, any.2), get_or_append_left xs ys any.1 any.0 any.2 ∙ any.3, any.4)

module _ (final : ℕ) (nodes : List Node) (node : Node) where
  abbrev IsAbove : ℕ → Node → Type 0
  IsAbove low n = (bound : ℕ) → IsLeftAt final n.ending bound → low ≤ bound

  abbrev IsNotLeft : Node → Type 0
  IsNotLeft n = (bound : ℕ) → ¬ IsLeftAt final n.ending bound

  module _ (units : ℕ) (left : IsLeftAt final node.ending units) where
    above : (low : ℕ) → low ≤ units → IsAbove low node
    above low less bound is = let same = only_one final units bound node.ending left is in omega (arith, same, less)

    -- the first bound that is left
    pub lowest_first : IsLowest final nodes None → IsLowest final (nodes ++ node ∷ []) (Some units)
    lowest_first none = (
      Any-push (λ (n : Node). IsLeftAt final n.ending units) nodes node left,
      All-push (IsAbove units) nodes node (All-weaker IsNotLeft (IsAbove units) (λ n h bound is. absurd (h bound is)) nodes none) (above units (omega arith)),
    )

    -- one that is not below the least
    pub lowest_kept : (least : ℕ) → least ≤ units → IsLowest final nodes (Some least) → IsLowest final (nodes ++ node ∷ []) (Some least)
    lowest_kept least less lowest = (
      any_before (λ (n : Node). IsLeftAt final n.ending least) nodes (node ∷ []) lowest.0,
      All-push (IsAbove least) nodes node lowest.1 (above least less),
    )

    -- one that is
    pub lowest_less : (least : ℕ) → units < least → IsLowest final nodes (Some least) → IsLowest final (nodes ++ node ∷ []) (Some units)
    lowest_less least less lowest = (
      Any-push (λ (n : Node). IsLeftAt final n.ending units) nodes node left,
      All-push (IsAbove units) nodes node
          (All-weaker (IsAbove least) (IsAbove units) (λ n h bound is. let more = h bound is in omega (arith, more, less)) nodes lowest.1) (above units (omega arith)),
    )

module _ (table : CostTableSeen) (book : BookSeen) where
  -- a priced node has no branches
  pub priced_alone : (here : Open) (marks : List Fact) (ending : Ending) (rest : List Open) → IsPriced table book here ending → rest ≡ branches marks ending ++ rest
  priced_alone here marks (Hole a) rest is = refl
  priced_alone here marks (Stuck k family) rest is = refl
  priced_alone here marks (Bounded duals covers) rest is = refl
  priced_alone here marks (Split pair duals routes dive) rest is = absurd is

  abbrev pub closing_node : ℕ → Ending → Node
  closing_node final ending = record { target = final; steps = []; ending = ending }

  pub is_closing : (final : ℕ) (here : Open) (ending : Ending) → IsShownEnding table book here.marks ending → IsPriced table book here ending
      → IsClosing table book final here (closing_node final ending)
  is_closing final here ending shown priced = record {
    shown = record { steps = tt; ending = subst (λ (m : List Fact). IsShownEnding table book m ending) (sym (append-nil here.marks)) shown };
    no_steps = refl;
    target = refl;
    priced = priced;
  }

  pub closing_events : (final : ℕ) (ending : Ending) → ending_events ending ≡ node_events (closing_node final ending)
  unfolding node_events
  closing_events final ending = refl

pub no_nodes : (final : ℕ) → IsLowest final [] None
no_nodes final = All-nil (λ (node : Node). (bound : ℕ) → ¬ IsLeftAt final node.ending bound)

within : (limit : Limit) (counter count : ℕ) → Counts limit counter count → IsWithin limit count
within Free counter count is = tt
within (Nodes most) counter count is = is.1

-- where something is left, the limit was reached
reached : (limit : Limit) (counter count : ℕ) → Counts limit counter count → HasReached limit count → HasReached limit counter × (count ≡ counter)
reached Free counter count counts is = absurd is
reached (Nodes most) counter count counts is = (counts.0 ∙ is, sym counts.0)

not_empty : (Stands : Open → Node → Type 0) (nodes : List Node) (i : ℕ) → i < length nodes → Grows Stands [] nodes [] → ⊥
unfolding Grows
not_empty Stands [] i less grows = omega (arith, less)
not_empty Stands (node ∷ nodes) i less grows = grows

module _ (table : CostTableSeen) (book : BookSeen) (limit : Limit) (counted closing : List Node) (left : List Open) (final counter : ℕ)
    (counts : Counts limit counter (length counted)) (is_reached : (left ≡ []) ⊎ HasReached limit (length counted))
    (closed : Grows (IsClosing table book final) left closing []) where
  at_limit : (low : ℕ) → IsLowest final closing (Some low) → HasReached limit counter × (length counted ≡ counter)
  at_limit low lowest = elim is_reached [
    | inl none ↦ absurd (not_empty (IsClosing table book final) closing lowest.0.0 lowest.0.2
        (subst (λ (o : List Open). Grows (IsClosing table book final) o closing []) none closed))
    | inr is ↦ reached limit counter (length counted) counts is
  ]

  answered : (plan : Option (List (List ℕ))) (low : Option ℕ) → IsBest table book plan final → IsLowest final closing low
      → IsOutcomeOf table book limit (length counted) closing final (outcome_for plan final low counter)
  answered (Some plan) None best lowest = (best, refl, lowest)
  answered None None best lowest = (best, lowest)
  answered (Some plan) (Some low) best lowest = let at = at_limit low lowest in (best, refl, lowest, at.0, at.1)
  answered None (Some low) best lowest = let at = at_limit low lowest in (best, lowest, at.0, at.1)

  pub search_tree : (plan : Option (List (List ℕ))) (low : Option ℕ) (outcome : Outcome) → outcome ≡ outcome_for plan final low counter
      → Grows (IsCounted table book) (root book ∷ []) counted left → FallsTo (no_target table) counted final
      → IsBest table book plan final → IsLowest final closing low → IsSearchTree table book limit outcome (record { counted = counted; closing = closing })
  search_tree plan low outcome same grown falls best lowest = record {
    final = final;
    left = left;
    grown = grown;
    closed = closed;
    within = within limit counter (length counted) counts;
    reached = is_reached;
    falls = falls;
    answered = subst (λ (o : Outcome). IsOutcomeOf table book limit (length counted) closing final o) (sym same) (answered plan low best lowest);
  }

-- what is not final comes at the limit
pub ends_under : (table : CostTableSeen) (book : BookSeen) (limit : Limit) (count : ℕ) (closing : List Node) (final : ℕ) (outcome : Outcome)
    → IsOutcomeOf table book limit count closing final outcome → EndsUnder limit outcome
ends_under table book limit count closing final (Optimal plan cost) is = tt
ends_under table book limit count closing final Infeasible is = tt
ends_under table book limit count closing final (Between plan low high nodes) is = is.3
ends_under table book limit count closing final (Above low nodes) is = is.2

pub none_counted : (limit : Limit) → Counts limit 0 0
none_counted Free = tt
none_counted (Nodes most) = (refl, omega arith)

-- where no more may be counted, so many were
pub stopped_there : (limit : Limit) (counter count : ℕ) → HasStopped limit counter → Counts limit counter count → HasReached limit count
stopped_there Free counter count stopped counts = absurd stopped
stopped_there (Nodes most) counter count stopped counts = omega (arith, stopped, counts.0, counts.1)
