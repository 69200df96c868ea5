use Rattle.std.proofs.Common.{rules, subst, ◌+◌, ◌^◌, ◌≡◌, ◌≢◌, ◌<◌, ◌≤◌, pos, ◌∙◌, sym, ap, arith, to_z, of_z, length, get_or, take, get_or-set_other}
use Rattle.std.proofs.lemmas.Int.{to_z-of_z}
use Rattle.std.proofs.lemmas.List.{take_all, take_more_set}
use Rattle.std.proofs.lemmas.List.Elements.{All-same, All-push}
use mir.Syntax.{w128}
use Rattle.tail_book.specs.Lookup.{carry_of}
use Rattle.tail_book.specs.Counters.{step_one}
use Rattle.plan_audit.specs.inside.PastLimits.{value_before, IsWithinLegs}
use Rattle.plan_audit.specs.Rules.{values_before}
use Rattle.plan_audit.proofs.CountLemmas.{step_from-more, read_before, length_before, carry_width, fits}
use Rattle.plan_audit.proofs.past_limits.count_leg.Goals as goal

-- the value at c stands as it was, and is small enough to be counted on
pub counted-next-requires-clause-range : goal.counted-next-requires-clause-range
counted-next-requires-clause-range c =
    let old = c.args.values.now in
    let values = c.loop-c.values in
    let n = c.loop-c.c in
    let in_old : n < length old = omega arith in
    let as_before : get_or values n (pos 0) ≡ get_or old n (pos 0) = c.loop-c.invariant.rest n (omega arith) in
    let small : IsWithinLegs (2 ^ 64) (get_or values n (pos 0)) = subst (IsWithinLegs (2 ^ 64)) (sym as_before) (c.requires.range n (pos 0) in_old) in
    subst (IsWithinLegs (2 ^ 64)) (sym (to_z-of_z w128 (get_or values n (pos 0)) (fits (2 ^ 64) (get_or values n (pos 0)) (omega arith) small))) small

-- what is written at c is the counter stepped from the value that was there before
pub loop-c-preserved : goal.loop-c-preserved
loop-c-preserved c =
    let book = c.args.book.now in
    let k = c.args.leg.tail in
    let x = c.args.leg.from in
    let old = c.args.values.now in
    let values = c.loop-c.values in
    let n = c.loop-c.c in
    let counter = c.index-counters-c.result in
    let before = values_before book k x old in
    let carry : length (carry_of book k) ≡ length c.args.counters.now =
    carry_width book k c.every_book_is_sound.ensures c.requires.leg.tail ∙ sym c.requires.counters in
    let long : length before ≡ length c.args.counters.now = length_before book k x old (length c.args.counters.now) carry c.requires.width in
    let in_values : n < length values = omega arith in
    let in_old : n < length old = omega arith in
    let as_before : get_or values n (pos 0) ≡ get_or old n (pos 0) = c.loop-c.invariant.rest n (omega arith) in
    let small : IsWithinLegs (2 ^ 64) (get_or values n (pos 0)) = subst (IsWithinLegs (2 ^ 64)) (sym as_before) (c.requires.range n (pos 0) in_old) in
    let value_is = to_z-of_z w128 (get_or values n (pos 0)) (fits (2 ^ 64) (get_or values n (pos 0)) (omega arith) small) in
    let next_small = c.counted-next.ensures.far (2 ^ 64) (subst (IsWithinLegs (2 ^ 64)) (sym value_is) small) in
    let next_is = to_z-of_z w128 c.counted-next.result (fits (2 ^ 64 + 1) c.counted-next.result (omega arith) next_small) in
    let next = to_z w128 (of_z w128 c.counted-next.result) in
    record {
      width = search rules;
      rest = λ i after. let other : i ≢ n = omega arith in get_or-set_other values n i next (pos 0) other ∙ c.loop-c.invariant.rest i (omega arith);
      stepped = step_from-more book k x c.args.leg.activity c.args.counters.now before values _ n counter next (omega (arith, c.requires.width)) (omega arith) in_values c.index-counters-c.is
          (next_is ∙ c.counted-next.ensures.value ∙ ap (λ v. step_one book k x c.args.leg.activity n counter (value_before book k x n v)) (value_is ∙ as_before) ∙ ap (step_one book k x c.args.leg.activity n counter) (sym (read_before book k x n old)))
          c.loop-c.invariant.stepped;
      far = λ legs all.
          let here : IsWithinLegs legs (to_z w128 (of_z w128 (get_or values n (pos 0)))) = subst (IsWithinLegs legs) (sym (value_is ∙ as_before)) (all n (pos 0) in_old) in
          All-same (IsWithinLegs (legs + 1)) _ _ (take_more_set values n next in_values)
          (All-push (IsWithinLegs (legs + 1)) (take n values) next (c.loop-c.invariant.far legs all)
          (subst (IsWithinLegs (legs + 1)) (sym next_is) (c.counted-next.ensures.far legs here)));
    }

-- no counter is left
pub returns-clause-far : goal.returns-clause-far
returns-clause-far c = λ legs all.
    let every : length c.loop-c.values ≤ c.loop-c.c = omega arith in
    All-same (IsWithinLegs (legs + 1)) _ _ (sym (take_all c.loop-c.c c.loop-c.values every)) (c.loop-c.invariant.far legs all)
