use Rattle.std.proofs.Common.{◌≡◌, ◌++◌, drop}
use Rattle.plan_audit.specs.Rules.{curfews}
use Rattle.plan_audit.proofs.not_allowed.add_curfews.Given as goal

-- what is left is added to what was
abbrev pub invariant-loop-leg : goal.invariant-loop-leg
invariant-loop-leg l = l.fn.list.items ++ curfews l.book l.legs ≡ l.list.items ++ curfews l.book (drop l.leg-index l.legs)
