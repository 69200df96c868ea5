use Rattle.std.proofs.Common.{◌≡◌, drop}
use Rattle.plan_audit.specs.Met.{with_ids}
use Rattle.plan_audit.specs.inside.MetNames.{AreMetNamesOf}
use Rattle.plan_audit.proofs.met_names.read_ids.Given as goal

-- what is left decides
abbrev pub invariant-loop-id : goal.invariant-loop-id
invariant-loop-id l = record {
  reads : with_ids l.names.book.now l.fn.met_names.met.items l.ids ≡ with_ids l.names.book.now l.met_names.met.items (drop l.id-index l.ids);
  met_names : AreMetNamesOf l.names.book.now l.met_names;
}
