use Rattle.std.proofs.Common.{◌≡◌, ◌<◌, ◌+◌, ◌-◌, arith}
use Rattle.tail_book.specs.Lookup.{activities}
use Rattle.fee_master.proofs.Looking.{dual_place, fee_place}
use Rattle.fee_master.proofs.settling.look.Goals as goal

pub returns-then-j-n-clause-looks : goal.returns-then-j-n-clause-looks
returns-then-j-n-clause-looks c =
    let fixed = c.args.fixed.now in
    let below : c.args.j < activities fixed.book.now = rw (← c.book.view_is) (omega (arith, c.if-j-n.true, c.len-n.ensures)) in
    dual_place fixed c.args.duals.now c.args.fees.now c.look_at_dual.new.duals c.args.fees.now c.args.j c.look_at_dual.result below c.look_at_dual.ensures.looks

pub returns-else-j-n-clause-looks : goal.returns-else-j-n-clause-looks
returns-else-j-n-clause-looks c =
    let fixed = c.args.fixed.now in
    let place : c.args.j ≡ activities fixed.book.now + (c.args.j - c.len-n.result) = rw (← c.book.view_is) (omega (arith, c.if-j-n.false, c.len-n.ensures)) in
    fee_place fixed c.args.duals.now c.args.fees.now c.args.duals.now c.look_at_fee.new.fees c.args.j (c.args.j - c.len-n.result) c.look_at_fee.result place c.look_at_fee.ensures.looks
