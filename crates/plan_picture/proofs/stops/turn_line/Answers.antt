use Rattle.plan_picture.proofs.Signed.{as_it_was}
use Rattle.std.proofs.Common.{refl, FitsSigned, rules, w64}
use Rattle.plan_picture.proofs.stops.turn_line.Goals as goal

-- the line is its pieces
pub returns : goal.returns
returns c =
    let fits_free_from_free : FitsSigned w64 c.free_from-free.result = search rules in
    let fits_earliest_start_end : FitsSigned w64 c.earliest_start-end.result = search rules in
    rw (c.in_ok-text-2.ensures.ok, c.in_ok-add_span.ensures, c.in_ok-text.ensures.ok, c.in_ok-line.ensures, c.y_of.ensures.value, as_it_was c.args.first c.ranges.first, as_it_was c.free_from-free.result fits_free_from_free, as_it_was c.earliest_start-end.result fits_earliest_start_end, c.earliest_start-end.ensures.value, c.free_from-free.ensures.value) refl
