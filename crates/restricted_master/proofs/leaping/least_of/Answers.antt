use Rattle.std.proofs.Common.{◌≡◌, ◌∙◌, ◌+◌, ap, sym, subst, refl, true, rules, ℤ, Some, w64, to_z, of_z, get_or, slice_index_or}
use Rattle.std.specs.Int.{int_min}
use Rattle.restricted_master.specs.inside.Least.{IsLeastBelow, weight_at}
use Rattle.restricted_master.proofs.LeastBelow.{below_pass}
use Rattle.restricted_master.proofs.leaping.least_of.Goals as goal

-- one route more
pub loop-q-preserved : goal.loop-q-preserved
loop-q-preserved c =
    let weight = weight_at c.args.weights.now (get_or c.args.numbers.now c.loop-q.q 0) in
    let read : to_z w64 (of_z w64 (weight_at c.args.weights.now (get_or c.args.numbers.now c.loop-q.q 0))) ≡ weight_at c.args.weights.now (get_or c.args.numbers.now c.loop-q.q 0) = search rules in
    let lesser : to_z w64 (of_z w64 c.lesser-least.result) ≡ c.lesser-least.result = search rules in
    subst (λ (z : ℤ). IsLeastBelow (c.loop-q.q + 1) (λ _. true) (λ p. weight_at c.args.weights.now (slice_index_or c.args.numbers.now p 0)) (Some z))
    (sym (lesser ∙ c.lesser-least.ensures ∙ ap (λ (z : ℤ). int_min (to_z w64 c.loop-q.least-bits) z) read))
    (below_pass c.loop-q.q (λ _. true) (λ p. weight_at c.args.weights.now (slice_index_or c.args.numbers.now p 0)) (Some (to_z w64 c.loop-q.least-bits)) weight c.loop-q.invariant refl refl)
