use Rattle.std.specs.Prelude.{not, is_some}
use Rattle.std.proofs.Common.{◌≡◌, ◌∙◌, Bool, Option, List, ℤ, true, false, refl, ap}
use Rattle.floor_rows.specs.inside.FloorRow.{floor_in}
use Rattle.propagator.proofs.LowestFloors.{nobody_goes}
use Rattle.propagator.proofs.lowest.none_goes_over.Goals as goal

was_not : (t : Bool) → not t ≡ true → t ≡ false
was_not true e = absurd (cc)
was_not false e = refl

-- the step passes a limit from the least of all floors
pub returns : goal.returns
returns c on =
    nobody_goes c.steps_keep_order.ensures c.lower_stays_within.ensures c.limits_decide.ensures c.args.book.now c.args.rows.now c.args.lowest.now 0 c.args.a c.args.b
    c.requires.least c.requires.from (floor_in c.args.lowest.now c.args.a) refl c.has.result c.goes_on_over.result
    (λ e. c.has.ensures ∙ ap (λ (floor : Option (List ℤ)). is_some floor) e) c.if-not-has.false c.goes_on_over.ensures.some (was_not c.goes_on_over.result on)
