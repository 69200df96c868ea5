use Rattle.tail_book.proofs.Partition.{plan_parts}
use Rattle.tail_book.proofs.laws.sums.legal_plans_partition.Goals as goal

pub returns : goal.returns
returns c book plan legal = plan_parts book plan legal
