use Rattle.restricted_master.proofs.OwnLeast.{sum_rises}
use Rattle.restricted_master.proofs.leaping.Leap.turn.Goals as goal

-- the sums are those over the pool
pub returns-clause-leaps : goal.returns-clause-leaps
returns-clause-leaps c =
    rw c.take.ensures.duals
    (sum_rises c.args.table.now c.args.book.now c.args.pool.now c.args.duals.now c.args.values.now _ _ c.requires.weighed.values_of
    c.look.ensures.there.values (c.rises.ensures.0 c.if-not-rises.false))
