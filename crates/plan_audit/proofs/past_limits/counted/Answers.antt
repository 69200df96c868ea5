use Rattle.std.proofs.Common.{◌^◌, subst, sym, arith}
use Rattle.std.proofs.lemmas.Int.{to_z-of_z}
use mir.Syntax.{w128}
use Rattle.plan_audit.specs.inside.PastLimits.{IsWithinLegs}
use Rattle.plan_audit.proofs.CountLemmas.{fits}
use Rattle.plan_audit.proofs.past_limits.counted.Goals as goal

-- the value before the leg is as small as the one that was given
pub value_after-requires-clause-range : goal.value_after-requires-clause-range
value_after-requires-clause-range c =
    let given = to_z-of_z w128 c.args.value (fits (2 ^ 64) c.args.value (omega arith) c.requires.range) in
    let near : IsWithinLegs (2 ^ 64) c.value_before-before.result =
    c.value_before-before.ensures.far (2 ^ 64) (subst (IsWithinLegs (2 ^ 64)) (sym given) c.requires.range) in
    subst (IsWithinLegs (2 ^ 64)) (sym (to_z-of_z w128 c.value_before-before.result (fits (2 ^ 64) c.value_before-before.result (omega arith) near))) near
