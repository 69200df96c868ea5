use Rattle.std.proofs.Common.{◌≡◌, ◌++◌, drop}
use Rattle.plan_audit.specs.Rules.{unknown}
use Rattle.plan_audit.proofs.dropped_names.add_unknown.Given as goal

-- what is left is added to what was
abbrev pub invariant-loop-name : goal.invariant-loop-name
invariant-loop-name l = l.fn.list.items ++ unknown l.met ≡ l.list.items ++ unknown (drop l.name-index l.met)
