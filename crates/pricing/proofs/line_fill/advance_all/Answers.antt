use Rattle.std.proofs.Common.{◌<◌, ◌∙◌, arith, length}
use Rattle.std.proofs.lemmas.List.{length-set}
use Rattle.label_store.proofs.Growing.{wide_trans}
use Rattle.pricing.proofs.Opening.{entered_with, pending_with}
use Rattle.pricing.proofs.line_fill.advance_all.Goals as goal

-- the line of window i is too
pub loop-i-preserved : goal.loop-i-preserved
loop-i-preserved c =
    let inv = c.loop-i.invariant in
    let book = c.args.asked.now.book.now in
    let marks = c.args.asked.now.marks.now.facts in
    let windows = c.args.lines.now.windows.now in
    let flights = c.args.lines.now.flights.now in
    let store = c.args.store.now in
    let old = c.loop-i.waiting in
    let new = c.advance.new.waiting in
    let entered = c.loop-i.entered in
    let i = c.loop-i.i in
    let now = c.in_ok-entered.field-0 in
    let lt : i < length windows = omega arith in
    let count = inv.entered.count in
    record {
      waiting = c.in_ok-entered.ensures.waiting;
      entered = entered_with book marks c.args.lines.now.stand windows flights store i now old new entered c.in_ok-entered.ensures.joins inv.entered lt c.in_ok-entered.ensures.entered;
      pending = pending_with book c.args.lines.now.stand windows flights i now entered (omega (arith, lt, count)) inv.pending c.in_ok-entered.ensures.others;
      wide = wide_trans c.args.waiting.now.keys old.keys new.keys inv.wide c.in_ok-entered.ensures.wide;
      count = length-set entered i now ∙ inv.count;
    }
