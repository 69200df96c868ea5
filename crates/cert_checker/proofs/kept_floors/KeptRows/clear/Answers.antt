use Rattle.std.proofs.Common.{◌<◌, ◌≤◌, arith, length}
use Rattle.cert_checker.proofs.KeptFloors.{Clears, all_cleared, none_turned, one_turned}
use Rattle.cert_checker.proofs.kept_floors.KeptRows.clear.Goals as goal

pub loop-i-init : goal.loop-i-init
loop-i-init c = none_turned Clears c.args.self.now.rows.items

pub loop-i-preserved : goal.loop-i-preserved
loop-i-preserved c =
    let count = c.loop-i.invariant.count in
    let within : c.loop-i.i < length c.args.self.now.rows.items = omega (arith, count) in
    one_turned Clears c.loop-i.i c.args.self.now.rows.items c.loop-i.self.rows.items c.clear.new.self c.index_mut.result.now within c.loop-i.invariant
    c.index_mut.ensures.value c.clear.ensures

pub returns : goal.returns
returns c =
    let count = c.loop-i.invariant.count in
    let all : length c.args.self.now.rows.items ≤ c.loop-i.i = omega (arith, count) in
    all_cleared c.loop-i.i c.args.self.now.rows.items c.loop-i.self.rows.items all c.loop-i.invariant
