use Rattle.std.proofs.Common.{take, map}
use Rattle.label_store.specs.Store.{bucket_of}
use Rattle.pricing.specs.Rows.{label_of}
use Rattle.branch_marks.specs.TreeEvents.{label_events}
use Rattle.node_leaves.specs.inside.EventLists.{Lists}
use Rattle.node_leaves.proofs.node_events.list_bucket.Given as goal

-- the rows before the next one are listed
abbrev pub invariant-loop-i : goal.invariant-loop-i
invariant-loop-i l = Lists l.initial.events.items l.events.items (label_events (map (label_of l.store) (take l.i (bucket_of l.store l.a))))
