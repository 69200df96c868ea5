use Rattle.std.proofs.Common.{◌≡◌, ◌+ℤ◌, pos, arith, rules}
use Rattle.std.proofs.lemmas.Int.{ints}
use Rattle.tail_book.specs.Sums.{total}
use Rattle.quota_demands.specs.Potentials.{ArePotentials}
use Rattle.quota_demands.proofs.shown_uses.shown.Goals as goal

-- what they come to bounds the uses of each plan
pub returns-in-Ok : goal.returns-in-Ok
returns-in-Ok c = λ plan legal.
    let found = c.args.found.now in
    let are : ArePotentials c.args.book.now c.args.quota.now found.coming.items found.leaving.items found.carried.items = search rules in
    let bound = c.potentials_bound.ensures c.args.book.now c.args.quota.now found.coming.items found.leaving.items found.carried.items are plan legal in
    let read : pos c.in-Ok.least ≡ total found.coming.items +ℤ (total found.leaving.items +ℤ total found.carried.items) = search rules in
    omega (arith, ints, bound, read)
