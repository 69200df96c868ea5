-- What is drawn of an audit. For src/answer.rt and src/run.rt.
use Rattle.std.specs.Prelude.{ℕ, List, []}
use Rattle.plan_audit.specs.declared.broken.Audit.{Audit}
use Rattle.plan_audit.specs.declared.broken.Audit.TheVariants.{Legal, Broken}
use Rattle.plan_audit.specs.declared.broken.Broken.{Broken as BrokenRule}

-- the cost that is drawn, which is that of a legal plan
abbrev pub drawn_cost : Audit → ℕ
drawn_cost (Legal cost) = cost
drawn_cost (Broken rules) = 0

-- the rules that are drawn
abbrev pub drawn_rules : Audit → List BrokenRule
drawn_rules (Legal cost) = []
drawn_rules (Broken rules) = rules.items
