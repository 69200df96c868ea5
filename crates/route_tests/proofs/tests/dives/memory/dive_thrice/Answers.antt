use Rattle.route_tests.proofs.tests.dives.memory.dive_thrice.Goals as goal

-- what was kept of the marks is forgotten, and the rest of the diver is as the first dive left it
pub ends_by_diver-again-requires-clause-diver : goal.ends_by_diver-again-requires-clause-diver
ends_by_diver-again-requires-clause-diver c =
    let kept = c.ends_by_diver-first.ensures.diver.1 in
    record {
      propagator = c.forget.ensures c.args.problem.now.book.now kept.propagator.made c.args.marks.now.facts;
      pricer = kept.pricer;
      store = kept.store;
      tally = kept.tally;
    }
