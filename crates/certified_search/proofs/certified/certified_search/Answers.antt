use Rattle.std.proofs.Common.{[]}
use Rattle.certified_search.proofs.Writing.{none_is_front}
use Rattle.certified_search.proofs.certified.certified_search.Goals as goal

-- nothing was written
pub returns-in-Err-clause-stopped : goal.returns-in-Err-clause-stopped
returns-in-Err-clause-stopped g c = λ lasts empty. ([], empty, none_is_front c.args.book.now c.args.limit c.args.order c.args.version)
