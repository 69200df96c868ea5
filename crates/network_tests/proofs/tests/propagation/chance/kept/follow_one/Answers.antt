use Rattle.network_tests.proofs.tests.propagation.chance.kept.follow_one.Goals as goal

pub follow_next-requires-clause-kept : goal.follow_next-requires-clause-kept
follow_next-requires-clause-kept c = c.forget.ensures c.args.book.now c.requires.made c.in_ok-marks.marks.facts
