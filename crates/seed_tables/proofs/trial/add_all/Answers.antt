use Rattle.std.proofs.Common.{◌≡◌, ◌∙◌, ◌+◌, ◌-◌, ◌++◌, arith, sym}
use Rattle.std.proofs.lemmas.List.{append-nil}
use Rattle.seed_tables.specs.Flights.{airports_from, all_flights_from}
use Rattle.seed_tables.specs.Rows.{lines_of}
use Rattle.seed_tables.specs.Trial.{fleet_rows}
use Rattle.seed_tables.proofs.FlightLemmas.{aircraft-told, all-none, airports-none, fleet-told, told}
use Rattle.seed_tables.proofs.trial.add_all.Goals as goal

-- one aircraft more is told
pub loop-k-preserved : goal.loop-k-preserved
loop-k-preserved c = record {
  timetable = rw (c.in_ok-x.ensures.state)
      (aircraft-told (c.args.timetable.now ++ told (all_flights_from 8 0 c.args.seed)) c.loop-k.timetable c.add_both.new.timetable
      (8 - c.loop-k.k) (8 - (c.loop-k.k + 1)) c.loop-k.k c.loop-k.x (omega arith) c.loop-k.invariant.timetable (c.in_ok-x.ensures.timetable));
  fleet = rw (c.in_ok-x.ensures.state)
      (fleet-told (c.args.fleet.now ++ lines_of (fleet_rows 0 (airports_from 8 c.args.seed))) c.loop-k.fleet c.add_both.new.fleet
      (8 - c.loop-k.k) (8 - (c.loop-k.k + 1)) c.loop-k.k c.loop-k.x (omega arith) c.loop-k.invariant.fleet (c.in_ok-x.ensures.fleet));
}

pub returns-clause-timetable : goal.returns-clause-timetable
returns-clause-timetable c =
    let none : 8 - c.loop-k.k ≡ 0 = omega arith in
    sym (c.loop-k.invariant.timetable ∙ rw (none, all-none c.loop-k.k c.loop-k.x) (append-nil c.loop-k.timetable))

pub returns-clause-fleet : goal.returns-clause-fleet
returns-clause-fleet c =
    let none : 8 - c.loop-k.k ≡ 0 = omega arith in
    sym (c.loop-k.invariant.fleet ∙ rw (none, airports-none c.loop-k.x) (append-nil c.loop-k.fleet))
