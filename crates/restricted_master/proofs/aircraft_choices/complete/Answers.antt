use Rattle.std.proofs.Common.{◌≡◌, ◌<◌, ◌+ℤ◌, ℕ, None, arith, rules, length, w64, to_z, of_z}
use Rattle.branch_marks.specs.Bound.{value_of}
use Rattle.restricted_master.specs.Lists.{list_at}
use Rattle.restricted_master.specs.declared.choice.Choice.{Choice}
use Rattle.restricted_master.specs.inside.Choices.{choice_at}
use Rattle.restricted_master.specs.inside.Least.{IsFound}
use Rattle.restricted_master.proofs.Chosen.{found_here, rest_more, written_more}
use Rattle.restricted_master.proofs.aircraft_choices.complete.Goals as goal

-- one aircraft more
pub loop-k-preserved : goal.loop-k-preserved
loop-k-preserved c =
    let read : to_z w64 (of_z w64 (value_of c.args.values.now c.loop-k.k)) ≡ value_of c.args.values.now c.loop-k.k = search rules in
    let below : c.loop-k.k < length c.loop-k.choices = omega (arith, c.loop-k-test.true, c.loop-k.auto.choices) in
    let P : ℕ → Choice → Type 0 = λ k new.
    IsFound c.args.pool.now (list_at c.args.lists.now.by_aircraft k) c.args.weights.now c.args.a (value_of c.args.values.now k +ℤ to_z w64 (of_z w64 c.args.dual)) (choice_at c.args.choices.now k) new in
    record {
      found = written_more P c.loop-k.choices c.loop-k.k c.completed.result (record { with = None; without = None }) below c.loop-k.invariant.found
          (found_here c.args.pool.now c.of_aircraft.result.now (list_at c.args.lists.now.by_aircraft c.loop-k.k) c.args.weights.now c.args.values.now c.args.a
          (to_z w64 (of_z w64 c.args.dual)) _ _ (choice_at c.args.choices.now c.loop-k.k) c.completed.result c.loop-k.k
          c.completed.ensures c.of_aircraft.ensures read (c.loop-k.invariant.rest c.loop-k.k (omega arith)));
      rest = rest_more c.loop-k.choices c.args.choices.now c.loop-k.k c.completed.result c.loop-k.invariant.rest;
    }
