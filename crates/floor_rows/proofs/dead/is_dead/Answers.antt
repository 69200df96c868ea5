use Rattle.std.proofs.Common.{◌∙◌, ℤ, List, Option, ap, refl, sym, false}
use Rattle.std.specs.Prelude.{is_some}
use Rattle.std.proofs.lemmas.Bool.{both_ways}
use Rattle.floor_rows.specs.inside.LeastOver.{floor_of}
use Rattle.floor_rows.proofs.DeadByFloors.{dead_arrival, end_tells}
use Rattle.floor_rows.proofs.dead.is_dead.Goals as goal

-- it is alive, and never comes there
pub returns-then-not-has : goal.returns-then-not-has
returns-then-not-has c = (
  (λ _. dead_arrival c.args.book.now c.args.marks.now.facts c.args.k c.args.a c.requires.aircraft c.requires.activity (c.if-not-alive.ensures.means.0 refl)
      (ap (λ (floor : Option (List ℤ)). is_some floor) (sym c.requires.floor) ∙ sym c.if-not-has.ensures)),
  (λ _. refl),
)

-- it is alive, has a floor and may not end: so what goes on decides
pub returns : goal.returns
returns c =
    let book = c.args.book.now in
    let marks = c.args.marks.now.facts in
    let k = c.args.k in
    let a = c.args.a in
    end_tells book marks k a c.requires.aircraft c.requires.activity
    (c.if-not-alive.ensures.means.0 refl) (λ may. both_ways false refl (c.if-may_end.ensures.means.1 may))
    (floor_of book marks k a) refl
    (ap (λ (floor : Option (List ℤ)). is_some floor) (sym c.requires.floor) ∙ sym c.if-not-has.ensures)
    (c.successors_tell.ensures book marks k a) c.goes_on.result
    (λ low e. c.goes_on.ensures low (c.requires.floor ∙ e))
