use Rattle.std.proofs.Common.{◌≡◌, drop}
use Rattle.plan_audit.specs.Met.{with_lines}
use Rattle.plan_audit.specs.inside.MetNames.{AreMetNamesOf}
use Rattle.plan_audit.proofs.met_names.read_lines.Given as goal

-- what is left decides
abbrev pub invariant-loop-line : goal.invariant-loop-line
invariant-loop-line l = record {
  reads : with_lines l.names.book.now l.fn.met_names.met.items l.lines ≡ with_lines l.names.book.now l.met_names.met.items (drop l.line-index l.lines);
  met_names : AreMetNamesOf l.names.book.now l.met_names;
}
