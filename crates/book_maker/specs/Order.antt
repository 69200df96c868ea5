-- Activities in order of their starts, and of their ids where the starts are equal: the plain way, by putting each one
-- in front of the first that it comes before.
use Rattle.std.specs.Prelude.{List, [], ◌∷◌, if◌then◌else◌}
use Rattle.tail_book.specs.Seen.{ActivitySeen}
use Rattle.tail_book.specs.ActivityOrder.{comes_before}

-- the activity put in front of the first that it comes before
unfoldable pub put : ActivitySeen → List ActivitySeen → List ActivitySeen
put a [] = a ∷ []
put a (b ∷ more) = if comes_before a b then a ∷ b ∷ more else b ∷ put a more

-- the activities in order
unfoldable pub in_order : List ActivitySeen → List ActivitySeen
in_order [] = []
in_order (a ∷ more) = put a (in_order more)
