use Rattle.std.proofs.Common.{◌≡◌, ◌<◌, length}
use Rattle.std.specs.Prelude.{All}
use Rattle.tail_book.specs.Lookup.{activities}
use Rattle.tail_text.specs.Checks.{look_each}
use Rattle.tail_text.specs.inside.Joined.{joined}
use Rattle.shortage_reader.specs.ShortageText.{number_at}
use Rattle.shortage_reader.proofs.pieces.numbers_at.Given as goal

-- the ids so far are those of activities, and what is left decides
abbrev pub invariant-loop-id : goal.invariant-loop-id
invariant-loop-id l = record {
  known : look_each (number_at l.book l.place) l.fn.ids ≡ joined l.list.items (look_each (number_at l.book l.place) l.ids);
  range : All (λ a. a < activities l.book) l.list.items;
}

abbrev pub decreases-loop-id : goal.decreases-loop-id
decreases-loop-id l = length l.ids
