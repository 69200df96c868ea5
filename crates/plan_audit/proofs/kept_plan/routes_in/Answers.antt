use Rattle.std.proofs.Common.{rules, take}
use Rattle.tail_book.specs.Lookup.{aircraft}
use Rattle.tail_book.specs.declared.place.Place.TheVariants.{Carry}
use Rattle.plan_audit.specs.declared.leg.Leg.{Leg}
use Rattle.plan_audit.specs.inside.Kept.{route_in}
use Rattle.plan_audit.proofs.KeptRoutes.{leg-next, leg-fits, legs-begin, legs-end}
use Rattle.plan_audit.proofs.kept_plan.routes_in.Goals as goal

-- no leg yet
pub loop-leg-init : goal.loop-leg-init
loop-leg-init c = legs-begin (aircraft c.args.book.now) c.in_ok-routes.routes.items (search rules)

-- there is a route of its aircraft
pub add_leg-requires : goal.add_leg-requires
add_leg-requires c =
    let none : Leg = record { tail = 0; from = Carry; activity = 0 } in
    let legs = c.args.legs.now in
    let i = c.loop-leg.leg-index in
    leg-fits (route_in (take i legs)) (aircraft c.args.book.now) _ c.loop-leg.routes.items (c.requires i none c.loop-leg-test.true).tail c.loop-leg.invariant

-- the leg goes to the end of its route
pub loop-leg-preserved : goal.loop-leg-preserved
loop-leg-preserved c =
    let none : Leg = record { tail = 0; from = Carry; activity = 0 } in
    let i = c.loop-leg.leg-index in
    leg-next c.args.legs.now (aircraft c.args.book.now) i none c.loop-leg.routes.items c.add_leg.new.routes.items
    c.loop-leg-test.true (c.requires i none c.loop-leg-test.true).tail c.loop-leg.invariant c.in_ok-add_leg.ensures

-- no leg is left
pub returns : goal.returns
returns c = legs-end c.args.legs.now (aircraft c.args.book.now) c.loop-leg.leg-index c.loop-leg.routes.items c.loop-leg-test.false c.loop-leg.invariant
