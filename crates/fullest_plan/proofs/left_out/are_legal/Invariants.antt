use Rattle.std.proofs.Common.{◌≡◌, ◌<◌, ℕ, length}
use Rattle.tail_book.specs.Plan.{route_of}
use Rattle.tail_book.specs.Route.{IsLegalRoute}
use Rattle.fullest_plan.proofs.left_out.are_legal.Given as goal

-- the routes so far are legal
abbrev pub invariant-loop-k : goal.invariant-loop-k
invariant-loop-k l = record {
  legal : (j : ℕ) → j < l.k → IsLegalRoute l.book j (route_of l.routes j);
  width : length l.values ≡ length l.book.rules.counters;
}
