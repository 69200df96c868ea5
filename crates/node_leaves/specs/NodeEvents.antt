-- The events of a search's nodes, in the order in which they are told.
use Rattle.std.specs.Prelude.{List, [], ◌∷◌, ◌++◌, map, Option, Some, None}
use Rattle.branch_marks.specs.declared.fact.Fact.{Fact}
use Rattle.branch_marks.specs.declared.event.Event.{Event}
use Rattle.branch_marks.specs.declared.event.Event.TheVariants as told
use Rattle.branch_marks.specs.TreeEvents.{bound_events, stuck_events}
use Rattle.node_leaves.specs.Node.{Ending, Hole, Stuck, Bounded, Split, Node}
use Rattle.node_leaves.specs.Begun.{Part, Opened, Begun, BegunTree}

-- each step is a fact
abbrev pub step_events : List Fact → List Event
step_events steps = map (λ fact. told.Fact fact) steps

-- a leaf's events are those of the same leaf of a proof tree, and a split node tells its pair
abbrev pub ending_events : Ending → List Event
ending_events (Hole a) = told.Hole a ∷ []
ending_events (Stuck k family) = stuck_events k family
ending_events (Bounded duals covers) = bound_events duals covers
ending_events (Split pair duals routes dive) = told.Split pair ∷ []

-- the steps of a node, and then its end
unfoldable pub node_events : Node → List Event
node_events node = step_events node.steps ++ ending_events node.ending

-- one node after the other
unfoldable pub events_of : List Node → List Event
events_of [] = []
events_of (node ∷ nodes) = node_events node ++ events_of nodes

-- what was begun at the first open leaf
abbrev pub part_events : Option Part → List Event
part_events None = []
part_events (Some (Opened steps)) = step_events steps
part_events (Some (Begun steps duals covers)) = step_events steps ++ bound_events duals covers

abbrev pub begun_events : BegunTree → List Event
begun_events begun = events_of begun.nodes ++ part_events begun.part
