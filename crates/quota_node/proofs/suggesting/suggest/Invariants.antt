use Rattle.quota_node.specs.inside.Tools.{AreQuotaToolsFor}
use Rattle.quota_node.proofs.suggesting.suggest.Given as goal

-- the tools stay those of the book
abbrev pub invariant-loop-k : goal.invariant-loop-k
invariant-loop-k l = AreQuotaToolsFor l.book l.tools
