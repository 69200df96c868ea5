use Rattle.quota_node.proofs.shutting.shut.Goals as goal

-- what was forgotten is right for whatever marks
pub close-requires-clause-kept : goal.close-requires-clause-kept
close-requires-clause-kept c = c.forget.ensures c.args.book.now c.requires.tools.propagator c.args.marks.now.facts
