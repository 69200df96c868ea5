use Rattle.std.proofs.Common.{◌≡◌, sym, subst, List, ℤ, rules}
use Rattle.restricted_master.specs.inside.Least.{AreWeights}
use Rattle.restricted_master.proofs.PoolLeast.{values_from}
use Rattle.restricted_master.proofs.pool_duals.climb_valued.Goals as goal

-- all is weighed under the duals as they came
pub climb_weighed-requires-clause-weighed : goal.climb_weighed-requires-clause-weighed
climb_weighed-requires-clause-weighed c =
    let table = c.args.table.now in let book = c.args.book.now in let pool = c.args.pool.now in let duals = c.args.duals.now in
    let weights : c.deref_mut.result.now ≡ c.in_ok-weights.weights.items = search rules in
    record {
      table_for = c.requires.table;
      pool_for = c.requires.pool;
      lists_of = c.requires.lists;
      duals_of = c.requires.duals;
      weights_of = subst (λ (ws : List ℤ). AreWeights table book pool duals ws) (sym weights) c.in_ok-weights.ensures;
      values_of = values_from c.least_in_is_least.ensures table book pool duals c.args.values.now c.requires.routes c.requires.values;
    }
