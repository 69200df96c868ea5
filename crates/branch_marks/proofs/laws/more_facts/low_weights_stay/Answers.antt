use Rattle.branch_marks.proofs.laws.more_facts.low_weights_stay.Goals as goal

-- a route that fits the more fits the fewer, and so is bounded
pub returns : goal.returns
returns c table book fewer more among k duals low weighs route legal fits =
    weighs route legal ((c.more_facts_open_nothing.ensures book fewer more among).routes k route fits)
