-- The stretches of a picture in which an airport's clocks do not change.
use Rattle.std.specs.Prelude.{ℕ, ℤ, Bool, ◌&&◌, List, [], ◌∷◌, int_lt, if◌then◌else◌}
use Rattle.tail_book.specs.Seen.{BookSeen}
use Rattle.tail_book.specs.Lookup.{airport_of, offset_at}
use Rattle.tail_book.specs.declared.rules.Change.{Change}
use Rattle.plan_picture.specs.Layout.{end_shown, first_moment}
use Rattle.plan_picture.specs.declared.stretches.Stretch.{Stretch}

-- from one moment up to another, by the clocks of the first
abbrev pub stretch_from : BookSeen → ℕ → ℤ → ℤ → Stretch
stretch_from book port from to = record { first = first_moment book; offset = offset_at book port from; from = from; to = to }

-- a change between two moments cuts what lasts from the one up to the other
abbrev pub cuts : ℤ → ℤ → Change → Bool
cuts from to change = int_lt from change.at && int_lt change.at to

-- what lasts from one moment up to another, cut at each change between them
abbrev pub stretches_from : BookSeen → ℕ → ℤ → ℤ → List Change → List Stretch
stretches_from book port from to [] = stretch_from book port from to ∷ []
stretches_from book port from to (change ∷ later) =
    if cuts from to change then stretch_from book port from change.at ∷ stretches_from book port change.at to later
    else stretches_from book port from to later

-- all that is shown, cut at each change of the airport
abbrev pub stretches : BookSeen → ℕ → List Stretch
stretches book port = stretches_from book port (first_moment book) (end_shown book) (airport_of book port).changes
