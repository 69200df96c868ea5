use Rattle.std.proofs.Common.{◌≡◌, ◌+◌, ◌<◌, ◌+ℤ◌, ℕ, ℤ, pos, arith, List, length, drop, get_or, ap}
use Rattle.std.proofs.lemmas.Int.{ints}
use Rattle.std.proofs.lemmas.List.{drop_more}
use Rattle.tail_book.specs.Sums.{total}
use Rattle.cert_checker.proofs.bound.total.Goals as goal

total_left : (xs : List ℤ) (i : ℕ) → i < length xs → total (drop i xs) ≡ get_or xs i (pos 0) +ℤ total (drop (i + 1) xs)
total_left xs i less = ap total (drop_more xs i (pos 0) less)

-- one dual more
pub loop-i-preserved : goal.loop-i-preserved
loop-i-preserved c =
    let inv = c.loop-i.invariant in
    let left = total_left c.args.duals.now c.loop-i.i c.loop-i-test.true in
    let is = c.added-sum.ensures.sum in let small = c.added-sum.ensures.value in
    record {
      sum = omega (arith, ints, is, inv.sum, left);
      least = omega (arith, ints, is, small.least, inv.least);
      most = omega (arith, ints, is, small.most, inv.most);
    }
