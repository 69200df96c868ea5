-- The events of a proof tree, in the order of their lines: a tree's steps, its split with the first branch before the second, or its leaf.
-- For node_leaves/src/covers.rt and node_leaves/src/node_events.rt.
use Rattle.std.specs.Prelude.{ℕ, ℤ, zero, pos, ◌+◌, List, [], ◌∷◌, ◌++◌, map}
use Rattle.branch_marks.specs.declared.event.Event.{Event}
use Rattle.branch_marks.specs.declared.event.Event.TheVariants as event
use Rattle.branch_marks.specs.Labels.{Label}
use Rattle.branch_marks.specs.ProofTree.{Cover, Tree, Step, Split, Hole, Stuck, Bounded}

-- the labels of a family, in its order
abbrev pub label_event : Label → Event
label_event label = event.Label label.at label.weight label.counters

abbrev pub label_events : List Label → List Event
label_events family = map label_event family

-- a dual that is 0 has no event
abbrev pub dual_event : ℕ → ℤ → List Event
dual_event a (pos zero) = []
dual_event a dual = event.Dual a dual ∷ []

-- the duals of activity a, a + 1 and so on
abbrev pub dual_events : ℕ → List ℤ → List Event
dual_events a [] = []
dual_events a (dual ∷ duals) = dual_event a dual ++ dual_events (a + 1) duals

-- the value of a cover, and then its labels
abbrev pub cover_event : ℕ → Cover → List Event
cover_event k cover = event.Cover k cover.value ∷ label_events cover.family

-- the covers of aircraft k, k + 1 and so on
abbrev pub cover_events : ℕ → List Cover → List Event
cover_events k [] = []
cover_events k (cover ∷ covers) = cover_event k cover ++ cover_events (k + 1) covers

-- a bound, its duals, and its covers
abbrev pub bound_events : List ℤ → List Cover → List Event
bound_events duals covers = event.Bound ∷ dual_events 0 duals ++ cover_events 0 covers

-- a stuck aircraft, and the labels that show it
abbrev pub stuck_events : ℕ → List Label → List Event
stuck_events k family = event.Stuck k ∷ label_events family

-- the events of the tree
abbrev pub tree_events : Tree → List Event
tree_events (Step fact tree) = event.Fact fact ∷ tree_events tree
tree_events (Split pair one other) = event.Split pair ∷ tree_events one ++ tree_events other
tree_events (Hole a) = event.Hole a ∷ []
tree_events (Stuck k family) = stuck_events k family
tree_events (Bounded duals covers) = bound_events duals covers
