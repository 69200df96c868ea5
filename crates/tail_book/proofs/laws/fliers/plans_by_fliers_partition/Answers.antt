use Rattle.tail_book.proofs.FlierLemmas.{plan_parts}
use Rattle.tail_book.proofs.laws.fliers.plans_by_fliers_partition.Goals as goal

pub returns : goal.returns
returns c fliers m few = plan_parts fliers m few
