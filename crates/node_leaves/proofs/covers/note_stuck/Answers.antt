use Rattle.node_leaves.proofs.covers.note_stuck.Goals as goal

-- a family that shows it is there, and the log tells no list
pub returns-clause-noted : goal.returns-clause-noted
returns-clause-noted g c =
    let (family, shown) = c.stuck_is_shown.ensures c.args.table.now c.args.book.now c.every_book_is_sound.ensures c.args.marks.now.facts c.args.k c.requires.aircraft c.requires.stuck in
    (family, shown, λ told runs was. absurd (c.wants_events.ensures c.if-wants_events.false told was))
