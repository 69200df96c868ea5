use Rattle.std.proofs.Common.{rules}
use Rattle.dive_heuristic.proofs.diver.Diver.new.Goals as goal

-- a new propagator is right for whatever marks
pub returns : goal.returns
returns c = λ facts. record {
  propagator = c.in_ok-propagator.ensures facts;
  pricer = search rules;
  store = search rules;
  tally = search rules;
}
