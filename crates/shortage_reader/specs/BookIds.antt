-- The activity of an id: the first of the book that has it, by number. For src/book_ids.rt.
use Rattle.std.specs.Prelude.{ℕ, ◌+◌, List, [], ◌∷◌, Option, None, Some, if◌then◌else◌}
use Rattle.std.specs.Str.{bytes_eq}
use Rattle.tail_book.specs.Seen.{ActivitySeen, BookSeen}

-- the number of the first activity of an id, where the first one has number a
abbrev pub named_from : List ℕ → ℕ → List ActivitySeen → Option ℕ
named_from id a [] = None
named_from id a (activity ∷ rest) = if bytes_eq activity.id id then Some a else named_from id (a + 1) rest

-- the number of the activity of an id, if the book has one
abbrev pub activity_named : BookSeen → List ℕ → Option ℕ
activity_named book id = named_from id 0 book.activities
