use Rattle.std.proofs.Common.{◌≡◌, ◌∙◌, ◌+◌, ◌<◌, ℕ, ℤ, pos, ◌+ℤ◌, arith, List, [], ◌∷◌, length, take, get_or, ap}
use Rattle.std.proofs.lemmas.Int.{ints}
use Rattle.std.proofs.lemmas.List.{take_more}
use Rattle.tail_book.specs.Sums.{total}
use Rattle.tail_book.specs.inside.Sums.{TotalOfTwoLists}
use Rattle.node_leaves.proofs.leaf.total_of.Goals as goal

alone_total : (z : ℤ) → total (z ∷ []) ≡ z
alone_total z = omega (arith, ints)

total_more : (two : TotalOfTwoLists) (xs : List ℤ) (i : ℕ) → i < length xs → total (take (i + 1) xs) ≡ total (take i xs) +ℤ get_or xs i (pos 0)
total_more two xs i less =
    let x = get_or xs i (pos 0) in
    ap total (take_more xs i (pos 0) less) ∙ two (take i xs) (x ∷ []) ∙ ap (λ (z : ℤ). total (take i xs) +ℤ z) (alone_total x)

-- one value more
pub loop-i-preserved : goal.loop-i-preserved
loop-i-preserved c =
    let inv = c.loop-i.invariant in
    let more = total_more c.total_of_two_lists.ensures c.args.values.now c.loop-i.i c.loop-i-test.true in
    let is = c.added-sum.ensures.sum in let small = c.added-sum.ensures.value in
    record {
      sum = omega (arith, ints, is, inv.sum, more);
      least = omega (arith, ints, is, small.least, inv.least);
      most = omega (arith, ints, is, small.most, inv.most);
    }
