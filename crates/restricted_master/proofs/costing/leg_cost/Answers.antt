use Rattle.std.proofs.Common.{◌≡◌, ◌≤◌, ◌+◌, ◌*◌, ℕ, List, sym, subst, arith, rules}
use Rattle.std.specs.Prelude.{All}
use Rattle.tail_book.specs.declared.rules.Band.{Band}
use Rattle.restricted_master.proofs.costing.leg_cost.Goals as goal

at_most : (n x : ℕ) → 1 ≤ n → x ≤ n * x
at_most n x some = grind arith

-- each part is within its maximum
pub returns-clause-most : goal.returns-clause-most
returns-clause-most c =
    let bands : c.deref.result.now ≡ c.args.table.now.bands = search rules in
    let dear = c.connection_cost.ensures.most c.args.table.now.band_max
    (subst (λ (bs : List Band). All (λ (band : Band). band.cost ≤ c.args.table.now.band_max) bs) (sym bands) c.every_cost_table_is_sound.ensures.bands) in
    omega (arith, dear, c.activity_cost.ensures.most)

-- and all that a plan costs is small
pub overflow_add-result : goal.overflow_add-result
overflow_add-result c =
    let bands : c.deref.result.now ≡ c.args.table.now.bands = search rules in
    let dear = c.connection_cost.ensures.most c.args.table.now.band_max
    (subst (λ (bs : List Band). All (λ (band : Band). band.cost ≤ c.args.table.now.band_max) bs) (sym bands) c.every_cost_table_is_sound.ensures.bands) in
    let some : 1 ≤ c.args.table.now.n = omega (arith, c.requires.activity, c.requires.table.activities) in
    let all = at_most c.args.table.now.n (c.args.table.now.fly_max + c.args.table.now.band_max) some in
    omega (arith, dear, all, c.activity_cost.ensures.most, c.greatest_cost.ensures.value, c.greatest_cost.ensures.most)
