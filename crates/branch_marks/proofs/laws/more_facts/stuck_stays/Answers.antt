use Rattle.branch_marks.proofs.laws.more_facts.stuck_stays.Goals as goal

-- a route that fits the more would have fitted the fewer
pub returns : goal.returns
returns c book fewer more among k stuck route legal fits =
    stuck route legal ((c.more_facts_open_nothing.ensures book fewer more among).routes k route fits)
