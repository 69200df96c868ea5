use Rattle.tailview.proofs.answer.JudgedFinding.write.Goals as goal

-- what was written is the picture of the cost and the rules of the audit
pub returns-clause-taken : goal.returns-clause-taken
returns-clause-taken g c = rw (c.drawn_cost-cost.ensures, c.drawn_rules-rules.ensures) at c.write_picture.ensures.taken

pub returns-clause-front : goal.returns-clause-front
returns-clause-front g c = rw (c.drawn_cost-cost.ensures, c.drawn_rules-rules.ensures) at c.write_picture.ensures.front
