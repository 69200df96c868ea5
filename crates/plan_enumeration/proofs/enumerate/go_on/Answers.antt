use Rattle.std.proofs.Common.{◌∙◌, ap, arith, length, refl}
use Rattle.plan_enumeration.proofs.Trials.{advances, place_is_before, place_of_book, returned}
use Rattle.plan_enumeration.proofs.enumerate.go_on.Goals as goal

pub returns-then-not-can_go_on-clause-stays : goal.returns-then-not-can_go_on-clause-stays
returns-then-not-can_go_on-clause-stays c =
    returned c.routes_are_flown_in_turn.ensures c.args.book.now c.args.a c.args.trial.now c.can_go_on.new.trial (omega arith) c.requires.trial c.can_go_on.ensures.agrees
    (ap length c.can_go_on.ensures.fliers ∙ c.requires.trial.whole) (c.can_go_on.ensures.rows ∙ c.requires.trial.one_row_each)

pub going_cost-cost-requires-clause-place : goal.going_cost-cost-requires-clause-place
going_cost-cost-requires-clause-place c =
    place_of_book c.args.book.now c.args.a c.place_of-from.result c.requires.activity
    (rw (c.place_of-from.ensures, c.can_go_on.ensures.places) (place_is_before c.routes_are_flown_in_turn.ensures c.args.book.now c.args.a c.args.trial.now c.requires.trial c.args.k c.requires.aircraft (omega arith)))

pub returns-clause-advances : goal.returns-clause-advances
returns-clause-advances c =
    let fits = c.if-not-can_go_on.false in
    advances c.routes_are_flown_in_turn.ensures c.args.book.now c.args.a c.args.k c.args.trial.now c.can_go_on.new.trial _ _ c.requires.trial c.requires.activity c.requires.aircraft
    (c.can_go_on.ensures.exact.0 fits) c.can_go_on.ensures.fliers c.can_go_on.ensures.places (c.can_go_on.ensures.row fits) refl refl refl c.place_of-from.ensures
    c.going_cost-cost.ensures.value c.going_cost-cost.ensures.most
