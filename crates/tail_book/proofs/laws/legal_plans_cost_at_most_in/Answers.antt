use Rattle.tail_book.proofs.TableBounds.{cost_most_in}
use Rattle.tail_book.proofs.laws.legal_plans_cost_at_most_in.Goals as goal

pub returns : goal.returns
returns c book table sound costs for plan legal = cost_most_in book table sound costs for plan legal
