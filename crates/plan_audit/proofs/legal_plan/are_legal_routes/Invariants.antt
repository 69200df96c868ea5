use Rattle.std.proofs.Common.{◌≡◌, ◌<◌, ℕ, true, length}
use Rattle.tail_book.specs.Plan.{route_of}
use Rattle.tail_book.specs.LegalTests.{is_legal_route}
use Rattle.plan_audit.proofs.legal_plan.are_legal_routes.Given as goal

-- the routes so far are legal
abbrev pub invariant-loop-k : goal.invariant-loop-k
invariant-loop-k l = record {
  legal : (j : ℕ) → j < l.k → is_legal_route l.book j (route_of l.routes j) ≡ true;
  width : length l.values ≡ length l.book.rules.counters;
}
