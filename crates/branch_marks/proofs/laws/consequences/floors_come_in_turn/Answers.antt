use Rattle.branch_marks.proofs.Floors.{below_length, below_same, below_at}
use Rattle.branch_marks.proofs.laws.consequences.floors_come_in_turn.Goals as goal

pub returns : goal.returns
returns c book marks k = record { count = below_length book marks k; made = below_at book marks k; kept = below_same book marks k }
