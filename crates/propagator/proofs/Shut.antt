-- Marks are shut once three things hold: all aircraft stand, so that no Bar follows; nobody is an only carrier that no
-- Must names, so that no Must does; and no connection is dead, so that no Cut does. The first two are shown of the
-- marks before the Cuts, and hold of those with them, as from a Cut nothing new follows. A Tie never follows.
use Rattle.std.proofs.Common.{ℕ, List}
use Rattle.tail_book.specs.Seen.{BookSeen}
use Rattle.tail_book.specs.Lookup.{aircraft}
use Rattle.branch_marks.specs.declared.fact.Fact.{Fact}
use Rattle.branch_marks.specs.declared.fact.Fact.TheVariants.{Bar, Must, Cut, Tie}
use Rattle.branch_marks.specs.Following.{IsOnlyCarrier, IsDeadConnection, IsShut}
use Rattle.floor_rows.specs.inside.FloorRow.{FloorRowSeen}
use Rattle.propagator.specs.inside.Settling.{StandBelow}
use Rattle.propagator.specs.inside.Cutting.{NothingNewFollows}

pub shut_at_end : (book : BookSeen) (before marks : List Fact) (rows : List FloorRowSeen) → StandBelow book before rows (aircraft book)
    → ((k a : ℕ) → ¬ IsOnlyCarrier book before k a) → NothingNewFollows book before marks → ((a b : ℕ) → ¬ IsDeadConnection book marks a b) → IsShut book marks
shut_at_end book before marks rows stand none nothing cut (Bar k a) of f = (stand k of.0).settled a of.1 (nothing (Bar k a) f)
shut_at_end book before marks rows stand none nothing cut (Must k a) of f = none k a (nothing (Must k a) f)
shut_at_end book before marks rows stand none nothing cut (Cut a b) of f = cut a b f
shut_at_end book before marks rows stand none nothing cut (Tie a b) of f = f
