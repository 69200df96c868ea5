use Rattle.std.proofs.Common.{arith}
use Rattle.std.proofs.lemmas.Int.{ints, clamps}
use Rattle.fee_master.proofs.best_rise.crossing.Goals as goal

-- whatever it comes to is brought within the ends
pub returns : goal.returns
returns c = record {
  least = omega (arith, ints, clamps, c.clamp.ensures.lower_bound, c.clamp.ensures.upper_bound, c.clamp.type_inv, c.requires);
  most = omega (arith, ints, clamps, c.clamp.ensures.lower_bound, c.clamp.ensures.upper_bound, c.clamp.type_inv, c.requires);
}
