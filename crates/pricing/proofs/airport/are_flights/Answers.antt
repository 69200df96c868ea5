use Rattle.std.proofs.Common.{rules, get_or, length}
use Rattle.std.specs.Prelude.{IsTrue}
use Rattle.tail_book.specs.Lookup.{end_of}
use Rattle.pricing.proofs.Busy.{rises}
use Rattle.pricing.proofs.airport.are_flights.Goals as goal

-- ends that rise from each flight to the next rise
pub returns-then-ends_rise : goal.returns-then-ends_rise
returns-then-ends_rise c = λ yes.
    let arrive : IsTrue c.each_arrives.result = search rules in
    let rise : IsTrue c.ends_rise.result = search rules in
    record {
      arrivals = c.each_arrives.ensures arrive;
      every = c.has_arrivals.ensures yes;
      order = rises (λ q. end_of c.args.book.now (get_or c.args.flights.now q 0)) (length c.args.flights.now) (c.ends_rise.ensures rise);
    }
