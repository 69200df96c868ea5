-- The latest end, one activity further on: the latest over all is that over what is left, begun with the latest so far,
-- so a turn takes the next end into it.
use Rattle.std.proofs.Common.{◌≡◌, ◌∙◌, ℕ, ◌+◌, ◌<◌, ℤ, ap, drop, length}
use Rattle.std.proofs.lemmas.List.{drop_more}
use Rattle.std.specs.Int.{int_max}
use Rattle.tail_book.specs.Seen.{BookSeen}
use Rattle.tail_book.specs.Lookup.{end_of, no_activity}
use Rattle.plan_picture.specs.Layout.{last_end}

pub last_end-more : (book : BookSeen) (first latest : ℤ) (b : ℕ) → b < length book.activities
    → last_end first book.activities ≡ last_end latest (drop b book.activities) → last_end first book.activities ≡ last_end (int_max latest (end_of book b)) (drop (b + 1) book.activities)
last_end-more book first latest b within so_far = so_far ∙ ap (last_end latest) (drop_more book.activities b no_activity within)
