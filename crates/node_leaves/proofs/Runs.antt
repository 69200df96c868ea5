-- Runs of nodes, from places that are owed to those that are left: put one after the other, with more places behind, with less
-- asked of each node, or with what holds of all of them, and with one node more; and what their events and targets are then.
use Rattle.std.proofs.Common.{◌≡◌, ◌≤◌, ℕ, List, [], ◌∷◌, ◌++◌, refl, sym, ap, subst, append_assoc, append-nil, arith, ◌∙◌}
use Rattle.std.proofs.lemmas.List.Elements.{All-nil, All-cons, All-head, All-tail}
use Rattle.std.specs.Prelude.{All}
use Rattle.branch_marks.specs.declared.event.Event.{Event}
use Rattle.node_leaves.specs.Place.{Open}
use Rattle.node_leaves.specs.Node.{Node, branches, closed_marks}
use Rattle.node_leaves.specs.Growth.{Grows}
use Rattle.node_leaves.specs.NodeEvents.{node_events, events_of}
use Rattle.node_leaves.specs.Target.{FallsTo}

module _ (Stands : Open → Node → Type 0) where
  pub grows_none : (owed : List Open) → Grows Stands owed [] owed
  unfolding Grows
  grows_none owed = refl

  pub grows_then : (owed : List Open) (nodes : List Node) (between : List Open) (more : List Node) (left : List Open)
      → Grows Stands owed nodes between → Grows Stands between more left → Grows Stands owed (nodes ++ more) left
  unfolding Grows
  grows_then owed [] between more left one two = subst (λ (o : List Open). Grows Stands o more left) (sym one) two
  grows_then [] (node ∷ nodes) between more left one two = absurd one
  grows_then (here ∷ owed) (node ∷ nodes) between more left one two =
      (one.0, grows_then (branches (closed_marks here node) node.ending ++ owed) nodes between more left one.1 two)

  pub grows_one : (here : Open) (owed : List Open) (node : Node) → Stands here node
      → Grows Stands (here ∷ owed) (node ∷ []) (branches (closed_marks here node) node.ending ++ owed)
  unfolding Grows
  grows_one here owed node stands = (stands, refl)

  pub grows_before : (owed : List Open) (nodes : List Node) (left rest : List Open)
      → Grows Stands owed nodes left → Grows Stands (owed ++ rest) nodes (left ++ rest)
  unfolding Grows
  grows_before owed [] left rest one = ap (λ (o : List Open). o ++ rest) one
  grows_before [] (node ∷ nodes) left rest one = absurd one
  grows_before (here ∷ owed) (node ∷ nodes) left rest one =
      let ends = branches (closed_marks here node) node.ending in
      (one.0, subst (λ (o : List Open). Grows Stands o nodes (left ++ rest)) (append_assoc ends owed rest) (grows_before (ends ++ owed) nodes left rest one.1))

  -- one more node, at the first place that is left
  pub grows_more : (owed : List Open) (nodes : List Node) (left : List Open) (here : Open) (rest : List Open) (node : Node) (after : List Open)
      → Grows Stands owed nodes left → left ≡ here ∷ rest → Stands here node → after ≡ branches (closed_marks here node) node.ending ++ rest
      → Grows Stands owed (nodes ++ node ∷ []) after
  grows_more owed nodes left here rest node after grows was stands is =
      let ends = branches (closed_marks here node) node.ending ++ rest in
      subst (λ (o : List Open). Grows Stands owed (nodes ++ node ∷ []) o) (sym is)
      (grows_then owed nodes left (node ∷ []) ends grows
      (subst (λ (o : List Open). Grows Stands o (node ∷ []) ends) (sym was) (grows_one here rest node stands)))

module _ (Stands Weaker : Open → Node → Type 0) (weaker : (here : Open) (node : Node) → Stands here node → Weaker here node) where
  pub grows_weaker : (owed : List Open) (nodes : List Node) (left : List Open) → Grows Stands owed nodes left → Grows Weaker owed nodes left
  unfolding Grows
  grows_weaker owed [] left one = one
  grows_weaker [] (node ∷ nodes) left one = one
  grows_weaker (here ∷ owed) (node ∷ nodes) left one =
      (weaker here node one.0, grows_weaker (branches (closed_marks here node) node.ending ++ owed) nodes left one.1)

module _ (Stands Both : Open → Node → Type 0) (Holds : Node → Type 0)
    (both : (here : Open) (node : Node) → Stands here node → Holds node → Both here node) where
  pub grows_with : (owed : List Open) (nodes : List Node) (left : List Open) → Grows Stands owed nodes left → All Holds nodes → Grows Both owed nodes left
  unfolding Grows
  grows_with owed [] left one all = one
  grows_with [] (node ∷ nodes) left one all = one
  grows_with (here ∷ owed) (node ∷ nodes) left one all = (
    both here node one.0 (All-head Holds node nodes all),
    grows_with (branches (closed_marks here node) node.ending ++ owed) nodes left one.1 (All-tail Holds node nodes all),
  )

pub events_none : events_of [] ≡ []
unfolding events_of
events_none = refl

pub events_one : (node : Node) → events_of (node ∷ []) ≡ node_events node
unfolding events_of
events_one node = append-nil (node_events node)

pub events_then : (nodes more : List Node) → events_of (nodes ++ more) ≡ events_of nodes ++ events_of more
unfolding events_of
events_then [] more = refl
events_then (node ∷ nodes) more =
    ap (λ (es : List Event). node_events node ++ es) (events_then nodes more) ∙ sym (append_assoc (node_events node) (events_of nodes) (events_of more))

pub events_push : (nodes : List Node) (node : Node) → events_of (nodes ++ node ∷ []) ≡ events_of nodes ++ node_events node
events_push nodes node = events_then nodes (node ∷ []) ∙ ap (λ (es : List Event). events_of nodes ++ es) (events_one node)

pub falls_none : (first last : ℕ) → last ≤ first → FallsTo first [] last
unfolding FallsTo
falls_none first last lower = lower

pub falls_more : (first : ℕ) (nodes : List Node) (last : ℕ) (node : Node) → FallsTo first nodes last → node.target ≤ last
    → FallsTo first (nodes ++ node ∷ []) node.target
unfolding FallsTo
falls_more first [] last node falls lower = (omega (arith, falls, lower), omega arith)
falls_more first (other ∷ nodes) last node falls lower = (falls.0, falls_more other.target nodes last node falls.1 lower)

pub falls_below : (first : ℕ) (nodes : List Node) (last : ℕ) → FallsTo first nodes last → last ≤ first
unfolding FallsTo
falls_below first [] last falls = falls
falls_below first (other ∷ nodes) last falls = let rest = falls_below other.target nodes last falls.1 in omega (arith, rest, falls.0)

-- so each target is at least the last one
pub falls_over : (first : ℕ) (nodes : List Node) (last : ℕ) → FallsTo first nodes last → All (λ (node : Node). last ≤ node.target) nodes
unfolding FallsTo
falls_over first [] last falls = All-nil (λ (node : Node). last ≤ node.target)
falls_over first (other ∷ nodes) last falls =
    All-cons (λ (node : Node). last ≤ node.target) other nodes (falls_below other.target nodes last falls.1) (falls_over other.target nodes last falls.1)
