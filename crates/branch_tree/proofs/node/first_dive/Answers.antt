use Rattle.branch_tree.proofs.node.first_dive.Goals as goal

-- the diver that has forgotten its marks can be used for those of the node again
pub returns-in_err-dived-clause-diver : goal.returns-in_err-dived-clause-diver
returns-in_err-dived-clause-diver c =
    c.forget.ensures c.args.book.now c.args.table.now c.dive_and_take-dived.ensures.diver c.args.marks.now.facts

pub returns-clause-diver : goal.returns-clause-diver
returns-clause-diver c =
    c.forget.ensures c.args.book.now c.args.table.now c.dive_and_take-dived.ensures.diver c.args.marks.now.facts
