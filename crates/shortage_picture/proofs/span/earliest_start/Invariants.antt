use Rattle.std.proofs.Common.{◌≡◌, drop}
use Rattle.tail_book.specs.declared.limits.TheConstants.{LAST_MOMENT}
use Rattle.tail_book.specs.inside.Sound.{IsMoment}
use Rattle.shortage_picture.specs.Span.{earliest_start}
use Rattle.shortage_picture.proofs.span.earliest_start.Given as goal

-- the earliest so far, and the activities that are left
abbrev pub invariant-loop-a : goal.invariant-loop-a
invariant-loop-a l = record {
  so_far : earliest_start l.book LAST_MOMENT l.list ≡ earliest_start l.book l.earliest (drop l.a-index l.list);
  range : IsMoment l.earliest;
}
