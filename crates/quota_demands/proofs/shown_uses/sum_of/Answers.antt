use Rattle.std.proofs.Common.{◌≡◌, to_z, of_z, arith, rules}
use Rattle.std.proofs.lemmas.Int.{ints}
use Rattle.std.specs.Int.{w128}
use Rattle.tail_book.specs.Sums.{total}
use Rattle.quota_demands.proofs.shown_uses.sum_of.Goals as goal

pub returns : goal.returns
returns c =
    let one : to_z w128 (of_z w128 c.total.result) ≡ total c.args.found.now.coming.items = search rules in
    let two : to_z w128 (of_z w128 c.total-2.result) ≡ total c.args.found.now.leaving.items = search rules in
    let three : to_z w128 (of_z w128 c.total-3.result) ≡ total c.args.found.now.carried.items = search rules in
    omega (arith, ints, one, two, three, c.total.ensures.range, c.total-2.ensures.range, c.total-3.ensures.range)
