use Rattle.std.proofs.Common.{◌≡◌, ◌≤◌, ◌*◌, ◌+◌, ◌-◌, arith, rules, length}
use Rattle.label_store.proofs.Packing.{ends_before, moved_of}
use Rattle.label_store.proofs.packed.move_row.Goals as goal

-- both rows lie inside, and the copy moves one of them alone
pub returns-then-to-from-clause-values : goal.returns-then-to-from-clause-values
returns-then-to-from-clause-values c =
    let width = c.args.width in
    let old = c.args.values.now.items in
    let fill = c.requires.fill in
    let place = c.requires.place in
    let before = c.if-to-from.true in
    let ends_from = ends_before width c.args.from (length c.args.bucket.now.items) place in
    let inside_from : c.args.from * width + width ≤ length old = omega (arith, ends_from, fill) in
    let ends_to = ends_before width c.args.to c.args.from before in
    let inside_to : c.args.to * width + width ≤ length old = omega (arith, ends_to, inside_from) in
    let long : length c.copy_within.new.self.items ≡ length old = search rules in
    let by = c.copy_within.ensures.by_index in
    moved_of width c.args.from c.args.to old c.copy_within.new.self.items long inside_from inside_to
    c.place-source.result c.place-target.result (c.place-source.result + width - c.place-source.result)
    c.place-source.ensures.place c.place-target.ensures.place (omega arith) by.0 by.1 by.2
