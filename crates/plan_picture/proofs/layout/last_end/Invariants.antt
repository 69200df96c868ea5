use Rattle.std.proofs.Common.{◌≡◌, drop}
use Rattle.tail_book.specs.inside.Sound.{IsMoment}
use Rattle.plan_picture.specs.Layout.{last_end}
use Rattle.plan_picture.proofs.layout.last_end.Given as goal

-- the latest so far, and the ends that are left
abbrev pub invariant-loop-b : goal.invariant-loop-b
invariant-loop-b l = record {
  latest : last_end l.first l.book.activities ≡ last_end l.latest (drop l.b l.book.activities);
  range : IsMoment l.latest;
}
