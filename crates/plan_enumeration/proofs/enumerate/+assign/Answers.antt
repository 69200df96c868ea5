use Rattle.std.proofs.Common.{◌≡◌, ◌∙◌, ◌++◌, ◌∷◌, [], ℕ, List, ap, arith, below_more, refl, subst, take}
use Rattle.std.specs.Prelude.{slice_set}
use Rattle.tail_book.specs.declared.place.Place.{Place}
use Rattle.plan_enumeration.specs.inside.Enumeration.{HasTried}
use Rattle.plan_enumeration.proofs.Trials.{back_from, going_costs, returned, tried_dear, tried_from, tried_nothing}
use Rattle.plan_enumeration.proofs.enumerate.+assign.Goals as goal

pub assign_to-returns-in_default-clause-tried : goal.assign_to-returns-in_default-clause-tried
assign_to-returns-in_default-clause-tried t c = tried_nothing c.routes_are_flown_in_turn.ensures c.args.book.now c.args.best.now (take c.args.a c.args.trial.now.fliers.items) c.args.k c.requires.aircraft c.in_default.ensures.stuck

pub assign_to-assign_from-requires : goal.assign_to-assign_from-requires
assign_to-assign_from-requires t c =
    let adv = c.in-Some.ensures.advances in
    let cost = going_costs c.routes_are_flown_in_turn.ensures c.args.book.now c.args.a c.args.k c.args.trial.now c.go_on.new.trial c.in-Some.advance c.args.cost c.requires.aircraft adv c.requires.cost in
    (omega arith, (c.requires.tables, (omega arith, (adv.trial, (cost, (omega (arith, adv.most, c.requires.most), c.requires.best))))))

pub assign_to-returns-clause-agrees : goal.assign_to-returns-clause-agrees
assign_to-returns-clause-agrees t c =
    let adv = c.in-Some.ensures.advances in
    back_from c.routes_are_flown_in_turn.ensures c.args.book.now c.args.a c.args.k c.args.trial.now c.go_on.new.trial c.assign_from.new.trial _ c.assign_from.ensures.agrees adv.front adv.values adv.places
    (ap (λ (x : Place). slice_set c.assign_from.new.trial.places.items c.args.k x) adv.from) refl refl

pub assign_to-returns-clause-trial : goal.assign_to-returns-clause-trial
assign_to-returns-clause-trial t c =
    let adv = c.in-Some.ensures.advances in
    returned c.routes_are_flown_in_turn.ensures c.args.book.now c.args.a c.args.trial.now _ (omega arith) c.requires.trial
    (back_from c.routes_are_flown_in_turn.ensures c.args.book.now c.args.a c.args.k c.args.trial.now c.go_on.new.trial c.assign_from.new.trial _ c.assign_from.ensures.agrees adv.front adv.values adv.places
    (ap (λ (x : Place). slice_set c.assign_from.new.trial.places.items c.args.k x) adv.from) refl refl)
    c.assign_from.ensures.trial.whole c.assign_from.ensures.trial.one_row_each

pub assign_to-returns-clause-tried : goal.assign_to-returns-clause-tried
assign_to-returns-clause-tried t c =
    let adv = c.in-Some.ensures.advances in
    subst (HasTried c.args.book.now c.assign_from.new.best) adv.fliers c.assign_from.ensures.tried

pub assign_from-loop-k-preserved : goal.assign_from-loop-k-preserved
assign_from-loop-k-preserved t c =
    let same : take c.args.a c.loop-k.trial.fliers.items ≡ take c.args.a c.args.trial.now.fliers.items = c.loop-k.invariant.agrees.fliers in
    record {
      best = c.assign_to.ensures.best;
      kept = λ who h. c.assign_to.ensures.kept who (c.loop-k.invariant.kept who h);
      tried = below_more _ _ (λ j lt rest. c.assign_to.ensures.kept _ (c.loop-k.invariant.tried j lt rest))
          (subst (λ (p : List ℕ). HasTried c.args.book.now c.assign_to.new.best (p ++ c.loop-k.k ∷ [])) same c.assign_to.ensures.tried);
      trial = c.assign_to.ensures.trial;
      agrees = record {
        fliers = c.assign_to.ensures.agrees.fliers ∙ c.loop-k.invariant.agrees.fliers;
        places = c.assign_to.ensures.agrees.places ∙ c.loop-k.invariant.agrees.places;
        values = c.assign_to.ensures.agrees.values ∙ c.loop-k.invariant.agrees.values;
      };
      in_book = c.loop-k.invariant.in_book;
      each_aircraft = c.loop-k.invariant.each_aircraft;
    }

pub assign_from-returns-clause-tried : goal.assign_from-returns-clause-tried
assign_from-returns-clause-tried t c = tried_from c.routes_are_flown_in_turn.ensures c.args.book.now c.args.a c.args.trial.now c.loop-k.best c.requires.trial c.loop-k.invariant.in_book
    (λ j lt. c.loop-k.invariant.tried j (omega (arith, lt, c.loop-k.invariant.each_aircraft)))

-- what already costs as much as the best is cut
pub assign_from-returns-then-best-cost-clause-tried : goal.assign_from-returns-then-best-cost-clause-tried
assign_from-returns-then-best-cost-clause-tried t c =
    tried_dear c.routes_are_flown_in_turn.ensures c.args.book.now c.args.best.now (take c.args.a c.args.trial.now.fliers.items) c.args.cost c.requires.cost c.if-best.true c.if-best-cost.true
