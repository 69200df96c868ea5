use Rattle.std.proofs.Common.{◌≡◌, ◌<◌, sym, subst, rules, arith, ℕ, ℤ, List, length, pos, w64, to_z, of_z}
use Rattle.restricted_master.specs.Lists.{list_at}
use Rattle.restricted_master.specs.inside.Leaps.{IsLeastOf}
use Rattle.restricted_master.proofs.Chosen.{written_more}
use Rattle.restricted_master.proofs.leaping.value.Goals as goal

-- one aircraft more
pub loop-k-preserved : goal.loop-k-preserved
loop-k-preserved c =
    let below : c.loop-k.k < length c.loop-k.values = omega (arith, c.loop-k-test.true, c.loop-k.auto.values) in
    let own = list_at c.args.lists.now.by_aircraft c.loop-k.k in
    let read : to_z w64 (of_z w64 c.least_of.result) ≡ c.least_of.result = search rules in
    written_more (λ k value. IsLeastOf (list_at c.args.lists.now.by_aircraft k) c.args.weights.now value) c.loop-k.values c.loop-k.k _ (pos 0) below
    c.loop-k.invariant
    (subst (λ (value : ℤ). IsLeastOf own c.args.weights.now value) (sym read)
    (subst (λ (xs : List ℕ). IsLeastOf xs c.args.weights.now c.least_of.result) c.of_aircraft.ensures c.least_of.ensures))
