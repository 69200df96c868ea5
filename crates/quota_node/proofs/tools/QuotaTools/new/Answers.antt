use Rattle.std.proofs.Common.{rules, []}
use Rattle.quota_node.proofs.tools.QuotaTools.new.Goals as goal

-- a new propagator was made for the book
pub returns : goal.returns
returns c = record {
  pricer = search rules;
  store = search rules;
  propagator = (c.in_ok-propagator.ensures []).made;
  tally = search rules;
  search = search rules;
}
