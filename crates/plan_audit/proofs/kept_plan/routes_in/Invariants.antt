use Rattle.std.proofs.Common.{◌≡◌, map, take}
use Rattle.std.specs.List.{range_with_len}
use Rattle.tail_book.specs.Lookup.{aircraft}
use Rattle.plan_audit.specs.inside.Kept.{route_in}
use Rattle.plan_audit.proofs.kept_plan.routes_in.Given as goal

-- the routes of the legs so far
abbrev pub invariant-loop-leg : goal.invariant-loop-leg
invariant-loop-leg l = l.routes.items ≡ map (route_in (take l.leg-index l.legs)) (range_with_len 0 (aircraft l.book))
