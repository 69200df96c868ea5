use Rattle.std.proofs.Common.{arith, refl, subst}
use Rattle.tail_book.specs.declared.place.Place.{Place}
use Rattle.plan_enumeration.specs.inside.Enumeration.{HasRow}
use Rattle.plan_enumeration.proofs.Trials.{agrees_before, goes_on_back, goes_on_from, place_is_before, place_of_book, values_are_small}
use Rattle.plan_enumeration.proofs.enumerate.can_go_on.Goals as goal

pub link_by-requires-clause-place : goal.link_by-requires-clause-place
link_by-requires-clause-place c =
    place_of_book c.args.book.now c.args.a c.place_of-from.result c.requires.activity
    (rw c.place_of-from.ensures (place_is_before c.routes_are_flown_in_turn.ensures c.args.book.now c.args.a c.args.trial.now c.requires.trial c.args.k c.requires.aircraft (omega arith)))

pub step_values-requires-clause-place : goal.step_values-requires-clause-place
step_values-requires-clause-place c = rw c.place_of-from.ensures (place_is_before c.routes_are_flown_in_turn.ensures c.args.book.now c.args.a c.args.trial.now c.requires.trial c.args.k c.requires.aircraft (omega arith))

pub step_values-requires-clause-small : goal.step_values-requires-clause-small
step_values-requires-clause-small c =
    rw c.place_of-from.ensures (values_are_small c.routes_are_flown_in_turn.ensures c.args.book.now c.args.a c.args.trial.now c.requires.trial c.every_book_is_sound.ensures c.args.k c.requires.aircraft (omega arith))

pub returns-then-link_by-clause-row : goal.returns-then-link_by-clause-row
returns-then-link_by-clause-row c fits =
    let row : HasRow c.args.book.now c.args.a c.args.k c.place_of-from.result c.args.trial.now (record { fliers = c.args.trial.now.fliers; places = c.args.trial.now.places; values = c.step_values.new.values }) = record {
      wide = c.step_values.ensures.wide;
      values = c.step_values.ensures.row;
      small = c.step_values.ensures.range (c.link_by.ensures.forward c.if-link_by.true) fits;
    } in
    subst (λ (from : Place). HasRow c.args.book.now c.args.a c.args.k from c.args.trial.now (record { fliers = c.args.trial.now.fliers; places = c.args.trial.now.places; values = c.step_values.new.values })) c.place_of-from.ensures row

pub returns-then-link_by-clause-exact : goal.returns-then-link_by-clause-exact
returns-then-link_by-clause-exact c = (
  (λ fits. goes_on_from c.routes_are_flown_in_turn.ensures c.args.book.now c.args.a c.args.trial.now c.requires.trial c.args.k c.place_of-from.result c.requires.aircraft c.requires.activity
      c.place_of-from.ensures (c.link_by.ensures.means.0 c.if-link_by.true) (c.step_values.ensures.limits.0 fits)),
  (λ goes. c.step_values.ensures.limits.1 (goes_on_back c.routes_are_flown_in_turn.ensures c.args.book.now c.args.a c.args.trial.now c.requires.trial c.args.k c.place_of-from.result c.requires.aircraft c.requires.activity c.place_of-from.ensures goes).1),
)

pub returns-then-link_by-clause-agrees : goal.returns-then-link_by-clause-agrees
returns-then-link_by-clause-agrees c = record {
  fliers = refl;
  places = refl;
  values = agrees_before c.routes_are_flown_in_turn.ensures c.args.book.now c.args.a c.args.trial.now c.requires.trial c.requires.activity _ c.step_values.new.values.items c.step_values.ensures.wide c.step_values.ensures.row;
}
