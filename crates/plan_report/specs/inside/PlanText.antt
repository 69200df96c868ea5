-- How much a plan file holds at most: as many lines as a book may have aircraft, each of as many ids as it may have
-- activities.
use Rattle.std.specs.Prelude.{◌≤◌, length, All}
use Rattle.tail_book.specs.Seen.{RawPlanSeen}
use Rattle.tail_book.specs.declared.limits.TheConstants.{ACTIVITY_LIMIT, TAIL_LIMIT}

-- a plan of no more lines than a book has aircraft, each of no more ids than it has activities
pub record IsSmallPlan (plan : RawPlanSeen) : Type 0 where
  pub lines : length plan.lines ≤ TAIL_LIMIT
  pub ids : All (λ line. length line.ids ≤ ACTIVITY_LIMIT) plan.lines
