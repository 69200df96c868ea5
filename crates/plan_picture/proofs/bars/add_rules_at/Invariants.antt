use Rattle.std.proofs.Common.{◌≡◌, ◌++◌, drop}
use Rattle.plan_picture.specs.Bars.{rules_at}
use Rattle.plan_picture.proofs.bars.add_rules_at.Given as goal

-- the names so far, and those of the rules that are left
abbrev pub invariant-loop-rule : goal.invariant-loop-rule
invariant-loop-rule l = l.initial.line ++ rules_at l.book l.k l.a l.rules ≡ l.line ++ rules_at l.book l.k l.a (drop l.rule-index l.rules)
