use Rattle.node_leaves.proofs.Cuts.{front_none}
use Rattle.node_leaves.proofs.notes.note_steps.Goals as goal

-- nothing was told
pub returns-in-Err-clause-cut : goal.returns-in-Err-clause-cut
returns-in-Err-clause-cut g c = front_none (g.L.TreeLog.shows c.args.log.now) _
