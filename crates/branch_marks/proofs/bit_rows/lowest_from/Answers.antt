use Rattle.std.proofs.Common.{arith, ◌/◌, ◌^◌, ◌<◌}
use Rattle.std.proofs.Math.Nat.{div-le_self}
use Rattle.branch_marks.proofs.Bits.{below_lowest, at_lowest}
use Rattle.branch_marks.proofs.bit_rows.lowest_from.Goals as goal

pub returns-clause-none : goal.returns-clause-none
returns-clause-none c =
    let small : c.args.word / 2 ^ c.args.low < 2 ^ 64 = omega (arith, div-le_self c.args.word (2 ^ c.args.low)) in
    λ i le lt most. below_lowest c.args.word c.args.low small i le lt

pub returns-clause-found : goal.returns-clause-found
returns-clause-found c =
    let small : c.args.word / 2 ^ c.args.low < 2 ^ 64 = omega (arith, div-le_self c.args.word (2 ^ c.args.low)) in
    λ lt. at_lowest c.args.word c.args.low small lt
