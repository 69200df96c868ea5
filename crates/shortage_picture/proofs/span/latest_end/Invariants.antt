use Rattle.std.proofs.Common.{◌≡◌, drop, pos}
use Rattle.tail_book.specs.inside.Sound.{IsMoment}
use Rattle.shortage_picture.specs.Span.{latest_end}
use Rattle.shortage_picture.proofs.span.latest_end.Given as goal

-- the latest so far, and the activities that are left
abbrev pub invariant-loop-a : goal.invariant-loop-a
invariant-loop-a l = record {
  so_far : latest_end l.book (pos 0) l.list ≡ latest_end l.book l.latest (drop l.a-index l.list);
  range : IsMoment l.latest;
}
