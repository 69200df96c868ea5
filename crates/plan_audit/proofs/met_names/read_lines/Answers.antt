use Rattle.std.proofs.Common.{◌∙◌, sym}
use Rattle.plan_audit.proofs.MetLemmas.{lines-next, lines-end}
use Rattle.plan_audit.proofs.met_names.read_lines.Goals as goal

-- the line is met behind the names so far
pub loop-line-preserved : goal.loop-line-preserved
loop-line-preserved c = record {
  reads = c.loop-line.invariant.reads ∙ lines-next _ _ _ _ _ c.line-item.result c.loop-line-test.true c.line-item.is c.in_ok-read_line.ensures.reads;
  met_names = c.in_ok-read_line.ensures.met_names;
}

-- no line is left
pub returns-clause-reads : goal.returns-clause-reads
returns-clause-reads c = sym (c.loop-line.invariant.reads ∙ lines-end _ _ _ _ c.loop-line-test.false)
