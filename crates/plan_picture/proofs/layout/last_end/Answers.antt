use Rattle.std.proofs.Common.{◌<◌, FitsSigned, length, rules, to_z, w64}
use Rattle.plan_picture.proofs.LastEnd.{last_end-more}
use Rattle.plan_picture.proofs.Signed.{as_it_was}
use Rattle.tail_book.specs.inside.Sound.{IsMoment}
use Rattle.plan_picture.proofs.layout.last_end.Goals as goal

-- one activity further on
pub loop-b-preserved : goal.loop-b-preserved
loop-b-preserved c =
    let fits : FitsSigned w64 c.max-latest.result = search rules in
    let fits_end : FitsSigned w64 c.end_of.result = search rules in
    let within : c.loop-b.b < length c.args.book.now.activities = search rules in
    let moment : IsMoment c.max-latest.result = search rules in
    record {
      latest = rw (as_it_was c.max-latest.result fits, c.max-latest.ensures.value, as_it_was c.end_of.result fits_end, c.end_of.ensures.value) (last_end-more c.args.book.now _ (to_z w64 c.loop-b.latest-bits) c.loop-b.b within c.loop-b.invariant.latest);
      range = rw (as_it_was c.max-latest.result fits) moment;
    }
