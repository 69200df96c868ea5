use Rattle.cert_checker.proofs.KeptFloors.{still_kept}
use Rattle.cert_checker.proofs.kept_floors.KeptFloors.give_up.Goals as goal

pub returns : goal.returns
returns c book marks is =
    still_kept c.floors_below_stay.ensures book marks c.args.fact c.args.self.now c.left_by-self.result c.left_by-self.ensures.less c.left_by-self.ensures.leaves is
