use Rattle.std.proofs.Common.{rules, ◌≡◌, ◌≤ℤ◌, ◌+ℤ◌, ◌+◌, pos, arith, get_or, of_z, to_z, w64}
use Rattle.std.proofs.lemmas.Int.{ints}
use Rattle.shortage_report.proofs.Totals.{added, part_none_below}
use Rattle.shortage_report.proofs.shares.total.Goals as goal

-- what is so far and the next number are at most the whole
pub overflow_add-sum : goal.overflow_add-sum
overflow_add-sum c =
    let read : to_z w64 (of_z w64 (get_or c.args.list.now c.loop-i.i (pos 0))) ≡ get_or c.args.list.now c.loop-i.i (pos 0) = search rules in
    let more = added c.args.list.now c.loop-i.i (to_z w64 c.loop-i.sum-bits) c.loop-i-test.true c.loop-i.invariant.so_far in
    let rest = part_none_below c.args.list.now (c.loop-i.i + 1) c.requires.none_below in
    let here : pos 0 ≤ℤ get_or c.args.list.now c.loop-i.i (pos 0) = c.requires.none_below c.loop-i.i (pos 0) c.loop-i-test.true in
    omega (arith, ints, read, more, rest, here, c.requires.small, c.loop-i.invariant.range)

-- one number more
pub loop-i-preserved : goal.loop-i-preserved
loop-i-preserved c =
    let read : to_z w64 (of_z w64 (get_or c.args.list.now c.loop-i.i (pos 0))) ≡ get_or c.args.list.now c.loop-i.i (pos 0) = search rules in
    let more = added c.args.list.now c.loop-i.i (to_z w64 c.loop-i.sum-bits) c.loop-i-test.true c.loop-i.invariant.so_far in
    let rest = part_none_below c.args.list.now (c.loop-i.i + 1) c.requires.none_below in
    let here : pos 0 ≤ℤ get_or c.args.list.now c.loop-i.i (pos 0) = c.requires.none_below c.loop-i.i (pos 0) c.loop-i-test.true in
    let next : to_z w64 (of_z w64 (to_z w64 c.loop-i.sum-bits +ℤ to_z w64 (of_z w64 (get_or c.args.list.now c.loop-i.i (pos 0)))))
    ≡ to_z w64 c.loop-i.sum-bits +ℤ get_or c.args.list.now c.loop-i.i (pos 0) =
    omega (arith, ints, read, more, rest, here, c.requires.small, c.loop-i.invariant.range) in
    record {
      so_far = rw next more;
      range = rw next (omega (arith, ints, here, c.loop-i.invariant.range));
    }
