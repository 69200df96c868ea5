use Rattle.std.proofs.Common.{◌≡◌, ◌<◌, ◌+ℤ◌, ◌+◌, ◌^◌, ℕ, ℤ, List, pos, length, drop, get_or, ap, arith, rules, w64, to_z, of_z}
use Rattle.std.proofs.lemmas.Int.{ints}
use Rattle.std.proofs.lemmas.List.{drop_more}
use Rattle.std.specs.Int.{w128}
use Rattle.tail_book.specs.Sums.{total}
use Rattle.quota_demands.proofs.potentials.total.Goals as goal

added : (list : List ℤ) (i : ℕ) (sum : ℤ) → i < length list → (sum +ℤ total (drop i list)) ≡ total list
    → ((sum +ℤ get_or list i (pos 0)) +ℤ total (drop (i + 1) list)) ≡ total list
added list i sum below so_far = let more = ap total (drop_more list i (pos 0) below) in omega (arith, ints, so_far, more)

-- one number more
pub loop-i-preserved : goal.loop-i-preserved
loop-i-preserved c =
    let sum = c.loop-i.invariant.range in
    let few : c.loop-i.i < 2 ^ 32 = omega (arith, c.loop-i-test.true, c.requires) in
    let read : to_z w64 (of_z w64 (get_or c.args.list.now c.loop-i.i (pos 0))) ≡ get_or c.args.list.now c.loop-i.i (pos 0) = search rules in
    let next : to_z w128 (of_z w128 (to_z w128 c.loop-i.sum-bits +ℤ to_z w128 (of_z w128 (to_z w64 (of_z w64 (get_or c.args.list.now c.loop-i.i (pos 0)))))))
    ≡ to_z w128 c.loop-i.sum-bits +ℤ get_or c.args.list.now c.loop-i.i (pos 0) = omega (arith, ints, sum, few, read) in
    record {
      so_far = rw next (added c.args.list.now c.loop-i.i (to_z w128 c.loop-i.sum-bits) c.loop-i-test.true c.loop-i.invariant.so_far);
      range = record { least = rw next (omega (arith, ints, sum, read)); most = rw next (omega (arith, ints, sum, read)) };
    }
