use Rattle.std.proofs.Common.{◌∙◌, sym}
use Rattle.plan_audit.proofs.MetLemmas.{ids-next, ids-end}
use Rattle.plan_audit.proofs.met_names.read_ids.Goals as goal

-- the id is met behind the names so far
pub loop-id-preserved : goal.loop-id-preserved
loop-id-preserved c = record {
  reads = c.loop-id.invariant.reads ∙ ids-next _ _ _ _ _ c.id-item.result c.loop-id-test.true c.id-item.is c.in_ok-read_id.ensures.reads;
  met_names = c.in_ok-read_id.ensures.met_names;
}

-- no id is left
pub returns-clause-reads : goal.returns-clause-reads
returns-clause-reads c = sym (c.loop-id.invariant.reads ∙ ids-end _ _ _ _ c.loop-id-test.false)
