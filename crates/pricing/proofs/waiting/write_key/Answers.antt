use Rattle.std.proofs.Common.{rules}
use Rattle.pricing.proofs.waiting.write_key.Goals as goal

-- the weight, the moment of arrival and the counters stand one behind the other
pub returns : goal.returns
returns c = search rules
