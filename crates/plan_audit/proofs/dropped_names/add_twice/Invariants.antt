use Rattle.std.proofs.Common.{◌≡◌, ◌++◌, drop}
use Rattle.plan_audit.specs.Rules.{twice}
use Rattle.plan_audit.proofs.dropped_names.add_twice.Given as goal

-- what is left is added to what was
abbrev pub invariant-loop-name : goal.invariant-loop-name
invariant-loop-name l = l.fn.list.items ++ twice l.met ≡ l.list.items ++ twice (drop l.name-index l.met)
