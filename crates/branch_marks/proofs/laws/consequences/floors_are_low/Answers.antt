use Rattle.tail_book.specs.Lookup.{no_tail}
use Rattle.branch_marks.proofs.Floors.{floors_low}
use Rattle.branch_marks.proofs.laws.consequences.floors_are_low.Goals as goal

pub returns : goal.returns
returns c book sound marks k hk x b values lt way =
    floors_low book marks k c.links_rise.ensures c.each_at_most_itself.ensures c.each_at_most_chains.ensures c.steps_keep_count.ensures
    c.usable_decides.ensures c.limits_decide.ensures sound (sound.tails k no_tail hk).one_carry_each x b values lt way
