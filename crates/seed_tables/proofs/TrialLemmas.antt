-- A trial is a book with a legal plan of least cost: its texts are read as that book, what was made is a legal plan of
-- it, and no legal plan costs less. Each of the three is shown in a file of its own.
use Rattle.std.proofs.Common.{ℕ}
use Rattle.seed_tables.specs.Making.{HasBook}
use Rattle.seed_tables.specs.Trial.{trial_of}
use Rattle.seed_tables.specs.inside.TrialBook.{book_made}
use Rattle.seed_tables.proofs.BookLemmas.{book-read}
use Rattle.seed_tables.proofs.PlanLemmas.{plan-is-least, plan-is-legal}

pub has-book : (seed : ℕ) → HasBook seed (trial_of seed)
has-book seed = (book_made seed, record { read = book-read seed; plan = plan-is-legal seed; least = plan-is-least seed })
