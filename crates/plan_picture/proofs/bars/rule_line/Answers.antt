use Rattle.plan_picture.proofs.Signed.{as_it_was}
use Rattle.std.proofs.Common.{refl, FitsSigned, rules, w64}
use Rattle.plan_picture.proofs.bars.rule_line.Goals as goal

-- the line is its pieces
pub returns : goal.returns
returns c =
    let fits_start_of : FitsSigned w64 c.start_of.result = search rules in
    rw (c.in_ok-text-5.ensures.ok, c.in_ok-text-4.ensures.ok, c.in_ok-text-3.ensures.ok, c.in_ok-unsigned-2.ensures.ok, c.in_ok-text-2.ensures.ok, c.in_ok-unsigned.ensures.ok, c.in_ok-text.ensures.ok, c.in_ok-line.ensures, c.x_of.ensures.value, c.y_of.ensures.value, as_it_was c.args.first c.ranges.first, as_it_was c.start_of.result fits_start_of, c.start_of.ensures.value) refl
