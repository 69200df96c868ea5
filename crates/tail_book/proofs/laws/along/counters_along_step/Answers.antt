use Rattle.tail_book.proofs.Along.{along_step}
use Rattle.tail_book.proofs.laws.along.counters_along_step.Goals as goal

pub returns : goal.returns
returns c book k route i lt = along_step book k route i lt
