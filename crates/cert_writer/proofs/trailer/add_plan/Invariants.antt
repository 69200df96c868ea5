use Rattle.std.proofs.Common.{◌≡◌, ◌++◌, drop}
use Rattle.std.specs.Prelude.{Some}
use Rattle.cert_lines.specs.PlanLines.{fly_lines, plan_lines}
use Rattle.cert_lines.specs.Text.{cert_text}
use Rattle.cert_writer.proofs.trailer.add_plan.Given as goal

-- the lines so far are written, and those of the other activities are left
abbrev pub invariant-loop-a : goal.invariant-loop-a
invariant-loop-a l = l.line ++ cert_text (fly_lines l.a (drop l.a l.fliers)) ≡ l.fn.line ++ cert_text (plan_lines (Some l.fliers))
