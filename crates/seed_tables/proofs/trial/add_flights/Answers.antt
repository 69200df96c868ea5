use Rattle.std.proofs.Common.{◌≡◌, ◌∙◌, ◌+◌, ◌*◌, ◌-◌, ◌++◌, arith, subst, sym}
use Rattle.std.proofs.lemmas.List.{append-nil}
use Rattle.seed_tables.specs.Flights.{flights_from}
use Rattle.seed_tables.specs.Rows.{flight_fields, line_of}
use Rattle.seed_tables.proofs.FlightLemmas.{after-flight, after-none, flights-none, one-told, told}
use Rattle.seed_tables.proofs.trial.add_flights.Goals as goal

-- one flight more is told, and three draws less are left
pub loop-j-preserved : goal.loop-j-preserved
loop-j-preserved c = record {
  place = c.flight_of-flight.ensures.to;
  early = omega (arith, c.flight_of-flight.ensures.end, c.loop-j.invariant.early);
  text =
      let added = subst (λ f. c.add_flight.new.text ≡ c.loop-j.timetable ++ line_of (flight_fields f)) c.flight_of-flight.ensures.exact (c.in_ok-add_flight.ensures) in
      rw (c.next-x.ensures, c.next-in-loop-j.ensures, c.next.ensures, c.flight_of-flight.ensures.exact)
      (one-told (c.args.timetable.now ++ told (flights_from 15 c.args.k 0 c.args.first 0 c.args.x)) c.loop-j.timetable c.add_flight.new.text
      (15 - c.loop-j.j) (15 - (c.loop-j.j + 1)) c.args.k c.loop-j.j c.loop-j.at c.loop-j.since c.loop-j.x (omega arith) c.loop-j.invariant.text added);
  state =
      rw (c.next-x.ensures, c.next-in-loop-j.ensures, c.next.ensures)
      (c.loop-j.invariant.state ∙ after-flight (45 - 3 * c.loop-j.j) (45 - 3 * (c.loop-j.j + 1)) c.loop-j.x (omega arith));
}

pub returns-clause-state : goal.returns-clause-state
returns-clause-state c =
    let none : 45 - 3 * c.loop-j.j ≡ 0 = omega arith in
    sym (c.loop-j.invariant.state ∙ rw none (after-none c.loop-j.x))

pub returns-clause-text : goal.returns-clause-text
returns-clause-text c =
    let none : 15 - c.loop-j.j ≡ 0 = omega arith in
    sym (c.loop-j.invariant.text ∙ rw (none, flights-none c.args.k c.loop-j.j c.loop-j.at c.loop-j.since c.loop-j.x) (append-nil c.loop-j.timetable))
