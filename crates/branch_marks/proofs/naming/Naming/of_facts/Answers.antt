use Rattle.std.proofs.Common.{◌∙◌, rules}
use Rattle.branch_marks.proofs.Undone.{named_next}
use Rattle.branch_marks.proofs.naming.Naming.of_facts.Goals as goal

-- one fact more
pub loop-i-preserved : goal.loop-i-preserved
loop-i-preserved c = c.with-named.ensures ∙ named_next c.args.self c.args.a c.args.facts.now c.loop-i.i c.at.result c.loop-i.named (search rules) c.at.ensures c.loop-i.invariant
