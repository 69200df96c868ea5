use Rattle.std.proofs.Common.{◌≡◌, true, false, append_assoc, pos, refl, rules}
use Rattle.std.proofs.lemmas.List.{append-nil}
use Rattle.std.specs.Prelude.{int_lt}
use Rattle.tail_book.specs.Link.{turn_time}
use Rattle.plan_picture.proofs.Signed.{as_it_was}
use Rattle.plan_picture.proofs.stops.add_stops.Goals as goal

-- the stop, and the turn behind it
pub returns-in_ok-push : goal.returns-in_ok-push
returns-in_ok-push c =
    let asked : int_lt (pos 0) (turn_time c.args.book.now c.args.k c.args.from c.args.b) ≡ true = search rules in
    rw (c.in_ok-push.ensures.items, c.in_ok-add_stop.ensures, c.in_ok-turn_line.ensures, as_it_was c.args.first c.ranges.first, asked) (append_assoc c.args.lines.now.items _ _)

-- the stop alone
pub returns-else-turn-gt0 : goal.returns-else-turn-gt0
returns-else-turn-gt0 c =
    let none : int_lt (pos 0) (turn_time c.args.book.now c.args.k c.args.from c.args.b) ≡ false = search rules in
    rw (c.in_ok-add_stop.ensures, as_it_was c.args.first c.ranges.first, none, append-nil) refl
