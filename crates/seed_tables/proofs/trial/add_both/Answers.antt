use Rattle.std.proofs.Common.{◌∙◌, ◌++◌, ap, sym}
use Rattle.seed_tables.proofs.FlightLemmas.{one-airport}
use Rattle.seed_tables.proofs.trial.add_both.Goals as goal

pub returns-clause-fleet : goal.returns-clause-fleet
returns-clause-fleet c =
    c.in_ok-add_aircraft.ensures ∙ rw (c.drawn-first.ensures.exact, c.next-x.ensures) (ap (λ line. c.args.fleet.now ++ line) (sym (one-airport c.args.k c.args.x)))
