use Rattle.turn_rules.proofs.Turns.{time_left}
use Rattle.turn_rules.proofs.laws.links_leave_time.Goals as goal

pub returns : goal.returns
returns c = time_left
