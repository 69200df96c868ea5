use Rattle.tail_book.proofs.FlierLemmas.{plan_legal}
use Rattle.tail_book.proofs.laws.fliers.plans_by_fliers_are_legal.Goals as goal

pub returns : goal.returns
returns c book fliers one_each few legal = plan_legal book fliers one_each few legal
