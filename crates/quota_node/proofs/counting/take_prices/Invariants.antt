use Rattle.quota_rows.specs.Fees.{AreFees}
use Rattle.quota_node.proofs.counting.take_prices.Given as goal

-- the fees stay in their boxes
abbrev pub invariant-loop-q : goal.invariant-loop-q
invariant-loop-q l = AreFees l.table l.quotas l.fees.values
