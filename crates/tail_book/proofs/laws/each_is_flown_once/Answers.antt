use Rattle.std.proofs.Common.{arith}
use Rattle.tail_book.proofs.FlownOnce.{someone_flies, one_flier}
use Rattle.tail_book.proofs.laws.each_is_flown_once.Goals as goal

pub returns : goal.returns
returns c book plan legal a lt =
    let once = legal.partition a lt in
    let who = someone_flies plan a (omega (arith, once)) in
    (who.0, omega (arith, who.1, legal.one_each), who.2, (λ j h. one_flier plan j who.0 a once h who.2))
