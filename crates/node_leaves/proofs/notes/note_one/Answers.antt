use Rattle.node_leaves.proofs.Cuts.{front_one}
use Rattle.node_leaves.proofs.notes.note_one.Goals as goal

pub returns-in-Err-Write-clause-cut : goal.returns-in-Err-Write-clause-cut
returns-in-Err-Write-clause-cut g c =
    front_one (g.L.TreeLog.shows c.args.log.now) (g.L.TreeLog.shows c.note.new.self) c.args.event.now c.in-Err-Write.ensures.failed

pub returns-in-Err-Memory-clause-cut : goal.returns-in-Err-Memory-clause-cut
returns-in-Err-Memory-clause-cut g c =
    front_one (g.L.TreeLog.shows c.args.log.now) (g.L.TreeLog.shows c.note.new.self) c.args.event.now c.in-Err-Memory.ensures.failed
