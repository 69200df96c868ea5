use Rattle.node_leaves.proofs.Pools.{kept_fitting}
use Rattle.node_leaves.proofs.fitting_pool.keep_fitting.Goals as goal

-- what is kept was legal, and fits
pub returns : goal.returns
returns c = λ table legal.
    kept_fitting c.fits_decides.ensures table c.args.book.now c.args.marks.now.facts c.args.pool.now c.keep_fitting.new.self c.keep_fitting.ensures legal
