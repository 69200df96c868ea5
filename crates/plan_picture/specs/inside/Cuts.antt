-- One change further on in a picture's time. For src/curfews.rt.
use Rattle.std.specs.Prelude.{ℕ, ℤ, List, [], if◌then◌else◌}
use Rattle.tail_book.specs.Seen.{BookSeen}
use Rattle.tail_book.specs.declared.rules.Change.{Change}
use Rattle.plan_picture.specs.Curfews.{bands_from}
use Rattle.plan_picture.specs.Stretches.{cuts, stretch_from}

-- the bands of the stretch that a change ends, and none where it doesn't cut
abbrev pub bands_until : BookSeen → ℕ → ℕ → ℤ → ℤ → Change → List (List ℕ)
bands_until book port height from to change =
    if cuts from to change then bands_from book port height (stretch_from book port from change.at) 0 book.rules.curfews else []

-- the moment from which the next stretch lasts
abbrev pub from_behind : ℤ → ℤ → Change → ℤ
from_behind from to change = if cuts from to change then change.at else from
