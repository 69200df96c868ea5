use Rattle.std.proofs.Common.{◌<◌, ◌≤◌, arith, length}
use Rattle.cert_checker.proofs.KeptFloors.{GivesUp, all_given_up, none_turned, one_turned}
use Rattle.cert_checker.proofs.kept_floors.KeptRows.give_up.Goals as goal

pub loop-i-init : goal.loop-i-init
loop-i-init c = none_turned (GivesUp c.args.fact) c.args.self.now.rows.items

pub loop-i-preserved : goal.loop-i-preserved
loop-i-preserved c =
    let count = c.loop-i.invariant.count in
    let within : c.loop-i.i < length c.args.self.now.rows.items = omega (arith, count) in
    one_turned (GivesUp c.args.fact) c.loop-i.i c.args.self.now.rows.items c.loop-i.self.rows.items c.give_up.new.self c.index_mut.result.now within c.loop-i.invariant
    c.index_mut.ensures.value c.give_up.ensures

pub returns : goal.returns
returns c =
    let count = c.loop-i.invariant.count in
    let all : length c.args.self.now.rows.items ≤ c.loop-i.i = omega (arith, count) in
    all_given_up c.args.fact c.loop-i.i c.args.self.now.rows.items c.loop-i.self.rows.items all c.loop-i.invariant
