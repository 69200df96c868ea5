use Rattle.std.proofs.Common.{◌+ℤ◌, ◌≤ℤ◌, ◌<ℤ◌, ◌<◌, rules, get_or, length}
use Rattle.tail_book.specs.Lookup.{end_of}
use Rattle.pricing.specs.inside.Waiting.{enters_after, window_at}
use Rattle.label_store.proofs.Growing.{wide_trans}
use Rattle.pricing.proofs.Waiters.{entered_one_more, joins_trans, pending_from}
use Rattle.pricing.proofs.waiting.advance.Goals as goal

-- the first that has not waited long enough ends no later than those behind it
pub returns-then-not-is_ready-clause-others : goal.returns-then-not-is_ready-clause-others
returns-then-not-is_ready-clause-others c =
    let flights = c.args.lines.now.flights.now in
    let late : c.args.lines.now.stand.moment <ℤ (end_of c.args.asked.now.book.now (get_or flights c.loop-q.q 0) +ℤ enters_after c.args.lines.now.stand.turn (window_at c.args.lines.now.windows.now c.args.i)) = search rules in
    pending_from c.args.asked.now.book.now c.args.lines.now.stand c.args.lines.now.windows.now flights c.args.lines.now.stand.port c.args.i c.loop-q.q c.requires.flights late

-- the flight at place q has entered too
pub loop-q-preserved : goal.loop-q-preserved
loop-q-preserved c =
    let inv = c.loop-q.invariant in
    let flights = c.args.lines.now.flights.now in
    let old = c.loop-q.waiting in
    let new = c.enter_flight.new.waiting in
    let within : c.loop-q.q < length flights = search rules in
    let ready : (end_of c.args.asked.now.book.now (get_or flights c.loop-q.q 0) +ℤ enters_after c.args.lines.now.stand.turn (window_at c.args.lines.now.windows.now c.args.i)) ≤ℤ c.args.lines.now.stand.moment = search rules in
    record {
      waiting = c.in_ok-enter_flight.ensures.waiting;
      joins = joins_trans c.args.i c.args.waiting.now old new inv.joins c.in_ok-enter_flight.ensures.joins;
      entered = entered_one_more c.args.asked.now.book.now c.args.asked.now.marks.now.facts c.args.lines.now.stand c.args.lines.now.windows.now flights c.args.store.now c.args.i c.loop-q.q old new
          c.in_ok-enter_flight.ensures.joins inv.entered within ready c.in_ok-enter_flight.ensures.held;
      wide = wide_trans c.args.waiting.now.keys old.keys new.keys inv.wide c.in_ok-enter_flight.ensures.wide;
    }
