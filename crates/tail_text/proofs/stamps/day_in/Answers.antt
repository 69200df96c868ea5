use Rattle.std.proofs.Common.{◌+◌, ◌*◌}
use Rattle.tail_text.proofs.StampLemmas.{day_number_range}
use Rattle.tail_text.proofs.stamps.day_in.Goals as goal

-- a stamp's day is in range, whatever its digits
pub returns-clause-range : goal.returns-clause-range
returns-clause-range c = rw c.day_number.ensures (day_number_range (c.pair_at.result * 100 + c.pair_at-2.result) c.pair_at-3.result c.pair_at-4.result)
