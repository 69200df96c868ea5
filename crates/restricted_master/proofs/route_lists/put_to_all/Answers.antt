use Rattle.std.proofs.Common.{refl, arith}
use Rattle.tail_book.specs.declared.place.Place.TheVariants.{Carry}
use Rattle.restricted_master.proofs.Listing.{grow_one, rising_apart, rising_in}
use Rattle.restricted_master.proofs.route_lists.put_to_all.Goals as goal

-- the activities of a route have lists
pub put-requires : goal.put-requires
put-requires c =
    let known = rising_in _ Carry c.args.route.now c.loop-q.q c.requires c.loop-q-test.true in
    omega (arith, known, c.loop-q.invariant.each)

-- one activity more
pub loop-q-preserved : goal.loop-q-preserved
loop-q-preserved c =
    grow_one c.args.route.now c.loop-q.q c.args.i _ c.args.lists.now.items c.loop-q.lists.items c.put.new.lists.items c.loop-q.invariant
    c.loop-q-test.true refl (rising_in _ Carry c.args.route.now c.loop-q.q c.requires c.loop-q-test.true)
    (rising_apart _ Carry c.args.route.now c.loop-q.q c.requires c.loop-q-test.true) c.in_ok-put.ensures.put
