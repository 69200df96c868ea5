use Rattle.std.proofs.Common.{◌≡◌, ◌≤◌, ◌+◌, ◌-◌, length}
use Rattle.std.specs.Prelude.{All}
use Rattle.tail_book.specs.declared.limits.TheConstants.{ACTIVITY_LIMIT, TAIL_LIMIT}
use Rattle.tail_text.specs.inside.Joined.{joined}
use Rattle.plan_report.specs.PlanText.{lines_from}
use Rattle.plan_report.proofs.plan_text.lines_from.Given as goal

-- the lines that were read stand before what is left, and all of them are small
abbrev pub invariant-loop-line : goal.invariant-loop-line
invariant-loop-line l = record {
  known : lines_from 2 TAIL_LIMIT l.fn.left ≡ joined l.lines.items (lines_from (length l.lines.items + 2) (TAIL_LIMIT - length l.lines.items) l.left);
  few : length l.lines.items ≤ TAIL_LIMIT;
  small : All (λ line. length line.ids ≤ ACTIVITY_LIMIT) l.lines.items;
}

abbrev pub decreases-loop-line : goal.decreases-loop-line
decreases-loop-line l = length l.left
