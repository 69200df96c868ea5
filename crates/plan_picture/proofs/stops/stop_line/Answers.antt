use Rattle.plan_picture.proofs.Signed.{as_it_was}
use Rattle.std.proofs.Common.{refl, FitsSigned, rules, w64}
use Rattle.plan_picture.proofs.stops.stop_line.Goals as goal

-- the line is its pieces
pub returns : goal.returns
returns c =
    let fits_free_from_free : FitsSigned w64 c.free_from-free.result = search rules in
    let fits_start_of : FitsSigned w64 c.start_of.result = search rules in
    rw (c.in_ok-text-6.ensures.ok, c.in_ok-text-5.ensures.ok, c.in_ok-text-4.ensures.ok, c.in_ok-text-3.ensures.ok, c.in_ok-text-2.ensures.ok, c.in_ok-add_span.ensures, c.in_ok-text.ensures.ok, c.in_ok-line.ensures, c.y_of.ensures.value, as_it_was c.args.first c.ranges.first, as_it_was c.free_from-free.result fits_free_from_free, as_it_was c.start_of.result fits_start_of, c.free_from-free.ensures.value, c.start_of.ensures.value) refl
