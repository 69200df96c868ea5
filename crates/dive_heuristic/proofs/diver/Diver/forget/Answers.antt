use Rattle.dive_heuristic.proofs.diver.Diver.forget.Goals as goal

-- only the propagator changes
pub returns : goal.returns
returns c = λ book table kept facts. record {
  propagator = c.forget.ensures book kept.1.propagator.made facts;
  pricer = kept.1.pricer;
  store = kept.1.store;
  tally = kept.1.tally;
}
