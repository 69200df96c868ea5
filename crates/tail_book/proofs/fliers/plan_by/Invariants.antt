use Rattle.std.proofs.Common.{◌≡◌, ◌++◌, ◌-◌}
use Rattle.tail_book.specs.Fliers.{plan_by}
use Rattle.tail_book.specs.inside.FlownInTurn.{routes_from}
use Rattle.tail_book.proofs.fliers.plan_by.Given as goal

-- the routes so far, and those that are left
abbrev pub invariant-loop-k : goal.invariant-loop-k
invariant-loop-k l = plan_by l.fliers l.count ≡ l.routes.items ++ routes_from l.k (l.count - l.k) l.fliers
