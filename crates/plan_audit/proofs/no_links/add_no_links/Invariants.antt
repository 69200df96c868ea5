use Rattle.std.proofs.Common.{◌≡◌, ◌++◌, drop}
use Rattle.plan_audit.specs.Rules.{no_links}
use Rattle.plan_audit.proofs.no_links.add_no_links.Given as goal

-- what is left is added to what was
abbrev pub invariant-loop-leg : goal.invariant-loop-leg
invariant-loop-leg l = l.fn.list.items ++ no_links l.book l.legs ≡ l.list.items ++ no_links l.book (drop l.leg-index l.legs)
