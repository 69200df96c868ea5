use Rattle.calendar_text.proofs.ReadBack.{read_back}
use Rattle.calendar_text.proofs.laws.moments_are_read_back.Goals as goal

pub returns : goal.returns
returns c = read_back
