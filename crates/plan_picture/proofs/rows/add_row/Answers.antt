use Rattle.std.proofs.Common.{◌≡◌, ◌++◌, append_assoc, of_z, to_z, w64}
use Rattle.std.proofs.lemmas.Result.{on_ok_weaker}
use Rattle.tail_book.specs.declared.place.Place.TheVariants.{Carry}
use Rattle.plan_picture.specs.Rows.{route_lines}
use Rattle.plan_picture.proofs.Signed.{as_it_was}
use Rattle.plan_picture.proofs.rows.add_row.Goals as goal

-- the head, and then the route
pub returns : goal.returns
returns c = on_ok_weaker c.add_route.result
    (λ (last : c.add_route.new.lines.items ≡ c.push.new.self.items ++ route_lines c.args.book.now c.args.homes.now (to_z w64 (of_z w64 c.args.first)) c.args.rules.now c.args.k 0 Carry c.args.route.now).
    rw (last, c.in_ok-push.ensures.items, c.in_ok-aircraft_line.ensures, as_it_was c.args.first c.ranges.first) (append_assoc c.args.lines.now.items _ _)) c.add_route.ensures
