use Rattle.plan_repair.proofs.RungLemmas.{not_highest}
use Rattle.plan_repair.proofs.rungs.climb.Goals as goal

-- at the highest raise the plan would have no more moves
pub next_raise-raise-requires-clause-below : goal.next_raise-raise-requires-clause-below
next_raise-raise-requires-clause-below c =
    rw c.highest-most.ensures (not_highest c.highest_is_fewest.ensures c.args.book.now c.args.homes.now c.rungs.raise c.rungs.best c.args.fewest.now
    c.every_book_is_sound.ensures c.rungs.invariant.best c.requires.fewest c.rungs-test.true)
