use Rattle.node_leaves.proofs.covers.note_bounded.Goals as goal

-- covers with these values are there, and the log tells no list
pub returns-clause-noted : goal.returns-clause-noted
returns-clause-noted g c =
    let least = c.requires.least in
    let (covers, shown, same) = c.low_bounds_are_shown.ensures c.args.table.now c.args.book.now c.every_book_is_sound.ensures c.args.marks.now.facts c.args.duals.now.values c.args.values.now
    c.requires.duals (record { one_each = least.one_each; each = λ k less. (least.each k less).least }) in
    record { covers = covers; shown = shown; least = same; told = λ told runs was. absurd (c.wants_events.ensures c.if-wants_events.false told was) }
