use Rattle.branch_marks.specs.Settled.{AreDuals}
use Rattle.branch_marks.specs.inside.MarkTables.{AreMarksOf}
use Rattle.node_leaves.specs.inside.FittingPool.{IsFittingPool}
use Rattle.quota_rows.specs.Fees.{AreFees}
use Rattle.quota_node.specs.inside.Tools.{AreQuotaToolsFor}
use Rattle.quota_node.proofs.raising.raise.Given as goal

-- duals, fees and the center of the ascent stay in their boxes, and the pool fits
abbrev pub invariant-loop-round : goal.invariant-loop-round
invariant-loop-round l = record {
  tools : AreQuotaToolsFor l.book l.tools;
  duals : AreDuals l.table l.book l.duals.values;
  fees : AreFees l.table l.quotas l.fees.values;
  center : AreDuals l.table l.book l.raising.ascent.best;
  cut : AreMarksOf l.book l.raising.cut;
  pool : IsFittingPool l.table l.book l.marks.facts l.pool;
}
