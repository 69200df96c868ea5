use Rattle.std.proofs.Common.{◌≡◌, w64, to_z, of_z, ◌+ℤ◌, ◌+◌, ◌<◌, ◌^◌, ap, ℕ, ℤ, List, length, drop, arith}
use Rattle.std.proofs.lemmas.List.{drop_more}
use Rattle.std.proofs.lemmas.Int.{ints}
use Rattle.std.specs.Prelude.{None}
use Rattle.std.specs.Int.{w128}
use Rattle.restricted_master.specs.declared.choice.Choice.{Choice}
use Rattle.restricted_master.specs.inside.Choices.{all_taken, choice_at, taken_at}
use Rattle.restricted_master.proofs.switching.part_at.Goals as goal

-- one aircraft more
added : (dual part sum weight : ℤ) (choices : List Choice) (k : ℕ) → k < length choices
    → (sum +ℤ all_taken dual (drop k choices)) ≡ part → weight ≡ taken_at dual (choice_at choices k).with (choice_at choices k).without
    → ((sum +ℤ weight) +ℤ all_taken dual (drop (k + 1) choices)) ≡ part
added dual part sum weight choices k below so_far is =
    let more = ap (all_taken dual) (drop_more choices k (record { with = None; without = None }) below) in
    omega (arith, ints, so_far, is, more)

pub loop-k-preserved : goal.loop-k-preserved
loop-k-preserved c =
    let sum = c.loop-k.invariant.range in
    let weight = c.taken_at.ensures.range in
    let few : c.loop-k.k < 2 ^ 32 = omega (arith, c.requires.few, c.loop-k-test.true) in
    let fits : to_z w128 (of_z w128 (to_z w128 c.loop-k.sum-bits +ℤ to_z w128 (of_z w128 (to_z w64 (of_z w64 c.taken_at.result)))))
    ≡ to_z w128 c.loop-k.sum-bits +ℤ c.taken_at.result = omega (arith, ints, sum, weight, few, c.taken_at.type_inv) in
    record {
      so_far = rw fits (added _ _ _ _ c.args.choices.now c.loop-k.k c.loop-k-test.true c.loop-k.invariant.so_far c.taken_at.ensures.value);
      range = record {
        least = rw fits (omega (arith, ints, sum, weight));
        most = rw fits (omega (arith, ints, sum, weight));
      };
    }
