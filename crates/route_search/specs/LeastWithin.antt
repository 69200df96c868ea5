-- What a search within a cut answers: the least weight where that is within the cut, and else that nothing is.
use Rattle.std.specs.Prelude.{ℕ, ℤ, pos, ◌+ℤ◌, ◌≤ℤ◌, List}
use Rattle.tail_book.specs.Seen.{BookSeen}
use Rattle.tail_book.specs.TableSeen.{CostTableSeen}
use Rattle.branch_marks.specs.declared.fact.Fact.{Fact}
use Rattle.branch_marks.specs.Weights.{WeighsAtLeast, IsLeastWeight, IsRouteOfWeight}
use Rattle.route_search.specs.declared.least_within.LeastWithin.{LeastWithin}
use Rattle.route_search.specs.declared.least_within.LeastWithin.TheVariants.{Best, NoneWithin}

-- the value is the least weight of aircraft k and no more than the cut, and the route has it; or each legal route of aircraft
-- k that fits the marks weighs more than the cut
abbrev pub IsFoundWithin : CostTableSeen → BookSeen → List Fact → ℕ → List ℤ → ℤ → LeastWithin → Type 0
IsFoundWithin table book marks k duals cut (Best value route) =
    IsLeastWeight table book marks k duals value × IsRouteOfWeight table book marks k duals value route × (value ≤ℤ cut)
IsFoundWithin table book marks k duals cut NoneWithin = WeighsAtLeast table book marks k duals (cut +ℤ pos 1)
