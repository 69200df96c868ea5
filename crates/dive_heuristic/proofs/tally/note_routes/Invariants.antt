use Rattle.std.proofs.Common.{◌≡◌, length, take}
use Rattle.tail_book.specs.Plan.{times_flown}
use Rattle.dive_heuristic.specs.inside.Flown.{IsTally}
use Rattle.dive_heuristic.proofs.tally.note_routes.Given as goal

-- the first routes are counted
abbrev pub invariant-loop-k : goal.invariant-loop-k
invariant-loop-k l = record {
  count : length l.tally ≡ length l.fn.tally;
  times : IsTally (times_flown (take l.k l.routes)) l.tally;
}
