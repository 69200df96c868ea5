use Rattle.std.proofs.Common.{◌<◌, ◌∙◌, arith, length, sym, subst, ℕ, List}
use Rattle.std.specs.Prelude.{All}
use Rattle.restricted_master.specs.Lists.{is_of}
use Rattle.restricted_master.proofs.Listing.{filter_below, listed_more}
use Rattle.restricted_master.proofs.route_lists.lists_by_activity.Goals as goal

-- an aircraft's numbers are of the pool
pub put_each-requires-clause-numbers : goal.put_each-requires-clause-numbers
put_each-requires-clause-numbers c =
    let own = c.requires.own.own c.loop-k.k c.loop-k-test.true in
    subst (λ (xs : List ℕ). All (λ i. i < length c.args.pool.now.entries) xs) (sym (c.list_at.ensures ∙ own))
    (filter_below (is_of c.args.pool.now c.loop-k.k) 0 (length c.args.pool.now.entries) (length c.args.pool.now.entries) (omega arith))

-- one aircraft more
pub loop-k-preserved : goal.loop-k-preserved
loop-k-preserved c =
    let own = c.requires.own.own c.loop-k.k c.loop-k-test.true in
    listed_more c.args.pool.now c.args.n c.loop-k.k c.list_at.result.now c.loop-k.lists.items c.put_each.new.lists.items c.loop-k.invariant
    (c.list_at.ensures ∙ own) c.in_ok-put_each.ensures.grown
