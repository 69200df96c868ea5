-- The order of a book's activities: by start, and by id where the starts are equal. A number of an activity is its
-- place. For src/sound.rt.
use Rattle.std.specs.Prelude.{Bool, ◌&&◌, ◌||◌, int_lt}
use Rattle.std.specs.Ordering.{nat_cmp, int_eq, is_lt}
use Rattle.std.specs.Cmp.Lexicographic.{slice_cmp}
use Rattle.tail_book.specs.Seen.{ActivitySeen}

-- the earlier start comes first, and of equal starts the lesser id by its bytes
abbrev pub comes_before : ActivitySeen → ActivitySeen → Bool
comes_before a b = int_lt a.start b.start || (int_eq a.start b.start && is_lt (slice_cmp nat_cmp a.id b.id))
