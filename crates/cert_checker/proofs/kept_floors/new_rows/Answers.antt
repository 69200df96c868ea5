use Rattle.cert_checker.proofs.KeptFloors.{one_new}
use Rattle.cert_checker.proofs.kept_floors.new_rows.Goals as goal

pub loop-i-preserved : goal.loop-i-preserved
loop-i-preserved c =
    one_new c.args.book.now c.loop-i._i c.loop-i.rows.items c.push.new.self.items c.in_ok-new.field-0 c.in_ok-push.ensures.items c.loop-i.invariant c.in_ok-new.ensures
