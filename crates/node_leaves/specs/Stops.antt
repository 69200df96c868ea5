-- What a log tells after a search that stopped early: a front of the events of a begun tree. For src/leaf.rt.
use Rattle.std.specs.Prelude.{◌≡◌, false, List}
use Rattle.tail_book.specs.Seen.{BookSeen}
use Rattle.tail_book.specs.TableSeen.{CostTableSeen}
use Rattle.branch_marks.specs.declared.event.Event.{Event}
use Rattle.branch_marks.specs.LogShown.{LogShown}
use Rattle.branch_marks.specs.TreeLog.{IsCut}
use Rattle.node_leaves.specs.Place.{Open}
use Rattle.node_leaves.specs.Begun.{BegunTree, IsBegunFrom}
use Rattle.node_leaves.specs.NodeEvents.{begun_events}

-- a log that told a list tells it with a front of the events of a begun tree at its end, or is torn at the next event; the
-- tree grows from the places that are owed
abbrev pub StopsIn : LogShown → LogShown → CostTableSeen → BookSeen → List Open → Type 0
StopsIn old new table book owed =
    (told : List Event) → new.ceased ≡ false → old.tells told
    → (begun : BegunTree) × IsBegunFrom table book owed begun × IsCut new told (begun_events begun)
