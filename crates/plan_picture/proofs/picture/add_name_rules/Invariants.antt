use Rattle.std.proofs.Common.{◌≡◌, ◌++◌, drop}
use Rattle.plan_picture.specs.Picture.{name_rules}
use Rattle.plan_picture.proofs.picture.add_name_rules.Given as goal

-- the names so far, and those of the rules that are left
abbrev pub invariant-loop-rule : goal.invariant-loop-rule
invariant-loop-rule l = l.initial.line ++ name_rules l.rules ≡ l.line ++ name_rules (drop l.rule-index l.rules)
