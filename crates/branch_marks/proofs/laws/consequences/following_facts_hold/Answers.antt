use Rattle.branch_marks.proofs.Following.{follows_hold}
use Rattle.branch_marks.proofs.laws.consequences.following_facts_hold.Goals as goal

pub returns : goal.returns
returns c book sound marks fact follows plan legal hold =
    follows_hold c.marked_routes_fit.ensures c.each_is_flown_once.ensures c.floors_are_low.ensures c.each_at_most_itself.ensures
    c.each_at_most_chains.ensures c.steps_keep_order.ensures c.lower_stays_within.ensures book sound marks plan legal hold fact follows
