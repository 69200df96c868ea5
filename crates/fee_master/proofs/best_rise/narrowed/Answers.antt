use Rattle.std.proofs.Common.{◌≡◌, rules, arith, w64, to_z, of_z}
use Rattle.std.proofs.lemmas.Int.{ints, to_z-of_z}
use Rattle.std.specs.Int.{w128}
use Rattle.fee_master.proofs.best_rise.narrowed.Goals as goal

-- each of its numbers is what was found for it
pub returns : goal.returns
returns c =
    let rise : to_z w64 (of_z w64 c.args.rise) ≡ c.args.rise = to_z-of_z w64 c.args.rise c.ranges.rise in
    let from : to_z w64 (of_z w64 c.raised-from.result) ≡ c.raised-from.result = search rules in
    let to : to_z w64 (of_z w64 c.lowered-to.result) ≡ c.lowered-to.result = search rules in
    let best : to_z w64 (of_z w64 c.better_of-best.result.rise) ≡ c.better_of-best.result.rise = search rules in
    let part : to_z w128 (of_z w128 c.better_of-best.result.part) ≡ c.better_of-best.result.part = search rules in
    let old_from : to_z w64 (of_z w64 c.args.range.from) ≡ c.args.range.from = search rules in
    let old_to : to_z w64 (of_z w64 c.args.range.to) ≡ c.args.range.to = search rules in
    record {
      from_up = λ le. (let h = c.raised-from.ensures.up le in omega (arith, ints, from, h, rise));
      from_same = λ lt. (let h = c.raised-from.ensures.same lt in omega (arith, ints, from, h, old_from));
      to_down = λ le. (let h = c.lowered-to.ensures.down le in omega (arith, ints, to, h, rise));
      to_same = λ lt. (let h = c.lowered-to.ensures.same lt in omega (arith, ints, to, h, old_to));
      better = λ lt. (let (e, f) = c.better_of-best.ensures.better lt in (omega (arith, ints, best, e, rise), omega (arith, ints, part, f)));
      kept = λ le. (let (e, f) = c.better_of-best.ensures.kept le in (omega (arith, ints, best, e), omega (arith, ints, part, f)));
    }
