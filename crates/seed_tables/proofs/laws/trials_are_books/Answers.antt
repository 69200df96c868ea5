use Rattle.seed_tables.proofs.TrialLemmas.{has-book}
use Rattle.seed_tables.proofs.laws.trials_are_books.Goals as goal

pub returns : goal.returns
returns c = has-book
