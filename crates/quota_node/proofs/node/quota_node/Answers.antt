use Rattle.std.proofs.Common.{refl, subst, sym}
use Rattle.std.proofs.lemmas.List.Elements.{All-nil}
use Rattle.restricted_master.specs.Seen.{PoolSeen}
use Rattle.node_leaves.specs.inside.FittingPool.{IsLegalPool}
use Rattle.quota_node.proofs.node.quota_node.Goals as goal

-- a pool that has no route yet
pub quota_node_with-requires-clause-pool : goal.quota_node_with-requires-clause-pool
quota_node_with-requires-clause-pool c =
    subst (λ (p : PoolSeen). IsLegalPool c.args.table.now c.args.book.now p) (sym c.in_ok-pool.ensures) (record {
      of_book = record { aircraft = All-nil _; rising = All-nil _; costs = refl };
      legal = All-nil _;
    })
