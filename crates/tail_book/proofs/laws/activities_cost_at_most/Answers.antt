use Rattle.tail_book.proofs.Costs.{activity_cost_most}
use Rattle.tail_book.proofs.laws.activities_cost_at_most.Goals as goal

pub returns : goal.returns
returns c book sound k a lt = activity_cost_most book sound k a lt
