use Rattle.std.proofs.Common.{◌≡◌, rules, to_z, of_z, w64}
use Rattle.std.proofs.lemmas.Int.{to_z-of_z}
use Rattle.fleet_rules.proofs.fleet.tail_of.Goals as goal

-- each field is good by its own reader
pub invariant_of-result : goal.invariant_of-result
invariant_of-result c =
    let same : to_z w64 (of_z w64 c.in_ok-ready.ready) ≡ c.in_ok-ready.ready = to_z-of_z w64 c.in_ok-ready.ready (search rules) in
    rw same (record {
      name = c.in_ok-name.ensures.grammar;
      kind = c.in_ok-kind.ensures.grammar;
      at = c.in_ok-at.ensures.grammar;
      ready = c.in_ok-ready.ensures.range;
      fixed = c.in_ok-fixed.ensures.range;
      tags = c.in_ok-tags.ensures.grammar;
      avoid = c.in_ok-avoid.ensures.grammar;
      carry = c.in_ok-carry.ensures.sound;
    })
