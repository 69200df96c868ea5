use Rattle.std.proofs.Common.{◌≡◌, ◌≤◌, ◌*◌, ◌∙◌, arith, length, take, drop, rules, ap}
use Rattle.tail_book.specs.Counters.{step}
use Rattle.tail_book.specs.Lookup.{activities}
use Rattle.plan_enumeration.specs.inside.Enumeration.{values_at, width_of, with_row}
use Rattle.plan_enumeration.proofs.Rows.{put_together, row_below, row_is_before, values_in_front}
use Rattle.plan_enumeration.proofs.enumerate.step_row.Goals as goal

pub step_into-requires-clause-there : goal.step_into-requires-clause-there
step_into-requires-clause-there c =
    let width : c.len-width.result ≡ width_of c.args.book.now = search rules in
    let front : c.split_at_mut-before.result.0.now ≡ take (c.args.a * width_of c.args.book.now) c.args.values.now = rw width at c.split_at_mut-before.ensures.front in
    let below = row_below (width_of c.args.book.now) c.args.a (activities c.args.book.now) c.requires.activity in
    let room : c.args.a * width_of c.args.book.now ≤ length c.args.values.now = omega (arith, below, c.requires.width) in
    rw front (row_is_before c.args.book.now c.args.values.now c.args.a c.args.from c.requires.place room)

pub step_into-requires-clause-small : goal.step_into-requires-clause-small
step_into-requires-clause-small c =
    let width : c.len-width.result ≡ width_of c.args.book.now = search rules in
    let front : c.split_at_mut-before.result.0.now ≡ take (c.args.a * width_of c.args.book.now) c.args.values.now = rw width at c.split_at_mut-before.ensures.front in
    let below = row_below (width_of c.args.book.now) c.args.a (activities c.args.book.now) c.requires.activity in
    let room : c.args.a * width_of c.args.book.now ≤ length c.args.values.now = omega (arith, below, c.requires.width) in
    rw (front, values_in_front c.args.book.now c.args.values.now c.args.k c.args.a c.args.from c.requires.place room) c.requires.small

pub returns-clause-limits : goal.returns-clause-limits
returns-clause-limits c =
    let width : c.len-width.result ≡ width_of c.args.book.now = search rules in
    let front : c.split_at_mut-before.result.0.now ≡ take (c.args.a * width_of c.args.book.now) c.args.values.now = rw width at c.split_at_mut-before.ensures.front in
    let below = row_below (width_of c.args.book.now) c.args.a (activities c.args.book.now) c.requires.activity in
    let room : c.args.a * width_of c.args.book.now ≤ length c.args.values.now = omega (arith, below, c.requires.width) in
    rw (← values_in_front c.args.book.now c.args.values.now c.args.k c.args.a c.args.from c.requires.place room, ← front, ← c.step_into.ensures.row) c.step_into.ensures.limits

pub returns-clause-row : goal.returns-clause-row
returns-clause-row c =
    let width : c.len-width.result ≡ width_of c.args.book.now = search rules in
    let front : c.split_at_mut-before.result.0.now ≡ take (c.args.a * width_of c.args.book.now) c.args.values.now = rw width at c.split_at_mut-before.ensures.front in
    let back : c.split_at_mut-before.result.1.now ≡ drop (c.args.a * width_of c.args.book.now) c.args.values.now = rw width at c.split_at_mut-before.ensures.back in
    let below = row_below (width_of c.args.book.now) c.args.a (activities c.args.book.now) c.requires.activity in
    let room : c.args.a * width_of c.args.book.now ≤ length c.args.values.now = omega (arith, below, c.requires.width) in
    let same : values_at c.args.book.now c.split_at_mut-before.result.0.now c.args.k c.args.from ≡ values_at c.args.book.now c.args.values.now c.args.k c.args.from =
    rw front (values_in_front c.args.book.now c.args.values.now c.args.k c.args.a c.args.from c.requires.place room) in
    rw width (put_together (width_of c.args.book.now) c.args.a c.args.values.now _ _ c.step_into.new.row front back
    ∙ ap (with_row (width_of c.args.book.now) c.args.values.now c.args.a) (c.step_into.ensures.row ∙ ap (step c.args.book.now c.args.k c.args.from c.args.a) same))

pub returns-clause-wide : goal.returns-clause-wide
returns-clause-wide c =
    let width : c.len-width.result ≡ width_of c.args.book.now = search rules in
    let front : c.split_at_mut-before.result.0.now ≡ take (c.args.a * width_of c.args.book.now) c.args.values.now = rw width at c.split_at_mut-before.ensures.front in
    let below = row_below (width_of c.args.book.now) c.args.a (activities c.args.book.now) c.requires.activity in
    let room : c.args.a * width_of c.args.book.now ≤ length c.args.values.now = omega (arith, below, c.requires.width) in
    rw (← values_in_front c.args.book.now c.args.values.now c.args.k c.args.a c.args.from c.requires.place room, ← front) c.step_into.ensures.wide

pub returns-clause-range : goal.returns-clause-range
returns-clause-range c =
    let width : c.len-width.result ≡ width_of c.args.book.now = search rules in
    let front : c.split_at_mut-before.result.0.now ≡ take (c.args.a * width_of c.args.book.now) c.args.values.now = rw width at c.split_at_mut-before.ensures.front in
    let below = row_below (width_of c.args.book.now) c.args.a (activities c.args.book.now) c.requires.activity in
    let room : c.args.a * width_of c.args.book.now ≤ length c.args.values.now = omega (arith, below, c.requires.width) in
    rw (← values_in_front c.args.book.now c.args.values.now c.args.k c.args.a c.args.from c.requires.place room, ← front, ← c.step_into.ensures.row) c.step_into.ensures.range
