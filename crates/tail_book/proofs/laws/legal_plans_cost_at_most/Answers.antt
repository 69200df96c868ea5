use Rattle.tail_book.proofs.Costs.{cost_most}
use Rattle.tail_book.proofs.laws.legal_plans_cost_at_most.Goals as goal

pub returns : goal.returns
returns c book sound plan legal = cost_most book sound plan legal
