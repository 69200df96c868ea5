use Rattle.std.proofs.Common.{◌∙◌}
use Rattle.floor_rows.proofs.KeptFloors.{first_written, lesser_written}
use Rattle.floor_rows.proofs.floor_row.lower_row.Goals as goal
use Rattle.floor_rows.proofs.floor_row.lower_row.Goals.{then-known-b, else-known-b}

pub returns-clause-row : goal.returns-clause-row
returns-clause-row c = elim c.if-known-b.branch [
  | then-known-b w ↦ (lesser_written c.args.width c.args.known.now c.args.values.now c.requires.row c.args.b c.requires.place
      c.args.row.now c.requires.width c.requires.range w.if-known-b.true c.if-known-b.values (w.values-is ∙ w.lower.ensures)).0
  | else-known-b w ↦ (first_written c.args.width c.args.known.now c.args.values.now c.requires.row c.args.b c.requires.place
      c.args.row.now c.requires.width c.requires.range w.if-known-b.false c.if-known-b.values (w.values-is ∙ w.write.ensures)).0
]

pub returns-clause-value : goal.returns-clause-value
returns-clause-value c = elim c.if-known-b.branch [
  | then-known-b w ↦ (lesser_written c.args.width c.args.known.now c.args.values.now c.requires.row c.args.b c.requires.place
      c.args.row.now c.requires.width c.requires.range w.if-known-b.true c.if-known-b.values (w.values-is ∙ w.lower.ensures)).1
  | else-known-b w ↦ (first_written c.args.width c.args.known.now c.args.values.now c.requires.row c.args.b c.requires.place
      c.args.row.now c.requires.width c.requires.range w.if-known-b.false c.if-known-b.values (w.values-is ∙ w.write.ensures)).1
]
