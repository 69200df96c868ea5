use Rattle.std.proofs.Common.{subst}
use Rattle.std.specs.Prelude.{Option, IfSome}
use Rattle.pricing.specs.declared.airport.AirportLines.{AirportLines}
use Rattle.pricing.specs.inside.Airports.{IsAirportOf}
use Rattle.pricing.proofs.Busy.{airports_more}
use Rattle.pricing.proofs.airports.add_airport.Goals as goal

-- the airport stands behind the others
pub returns-in_ok-push-in-Some : goal.returns-in_ok-push-in-Some
returns-in_ok-push-in-Some c = λ yes.
    let bands = c.args.table.now.bands in
    let book = c.args.book.now in
    let here : IsAirportOf bands book c.args.port c.in-Some.airport = subst (λ (o : Option AirportLines). IfSome o (IsAirportOf bands book c.args.port)) c.in-Some.is c.in_ok-airport.ensures in
    airports_more bands book c.args.port c.args.airports.now.items c.push.new.self.items c.in-Some.airport c.in_ok-push-in-Some.ensures.items c.requires here
