use Rattle.std.proofs.Common.{subst, ◌+◌, ◌+ℤ◌, ◌≡◌, ◌≢◌, ◌<◌, ◌≤◌, pos, ◌≤ℤ◌, ◌∙◌, sym, ap, ap₂, arith, w64, to_z, of_z, rules, length, get_or, take, get_or-set_other}
use Rattle.std.proofs.lemmas.Int.{ints, to_z-of_z}
use Rattle.std.proofs.lemmas.List.{take_all, take_more_set, get_or_default}
use Rattle.std.proofs.lemmas.List.Elements.{All-same, All-push}
use Rattle.std.specs.Prelude.{◌&&◌, FitsSigned}
use Rattle.tail_book.specs.Lookup.{start_of}
use Rattle.tail_book.specs.Numbers.{int_le}
use Rattle.tail_book.specs.Link.{free_from}
use Rattle.tail_book.specs.Ranges.{IsWithin}
use Rattle.tail_book.specs.Counters.{step_one}
use Rattle.maint_counters.specs.inside.StepTable.{counter_of, no_counter}
use Rattle.maint_counters.proofs.StepLemmas.{step_from-more, within_limits-more}
use Rattle.maint_counters.proofs.StepRows.{same_step}
use Rattle.maint_counters.proofs.step_table.step_rows.Goals as goal

-- the value at c is the one from before the loop
pub stepped-next-requires-clause-range : goal.stepped-next-requires-clause-range
stepped-next-requires-clause-range c =
    let n = c.loop-c.c in
    let values = c.loop-c.values in
    let as_before : get_or values n (pos 0) ≡ get_or c.args.values.now n (pos 0) = c.loop-c.invariant.rest n (omega arith) in
    let fits : FitsSigned w64 (get_or values n (pos 0)) = search rules in
    rw (to_z-of_z w64 (get_or values n (pos 0)) fits, as_before) (c.requires.range n (pos 0) (omega arith))

-- what is written at c is the counter stepped from the value that was there before
pub loop-c-preserved : goal.loop-c-preserved
loop-c-preserved c =
    let book = c.args.book.now in
    let k = c.args.k in
    let x = c.args.from in
    let b = c.args.b in
    let counters = book.rules.counters in
    let old = c.args.values.now in
    let values = c.loop-c.values in
    let n = c.loop-c.c in
    let row = c.activity_at-row.result in
    let free = c.free_at-free.result in
    let counter = counter_of book n in
    let in_values : n < length values = omega arith in
    let in_old : n < length old = omega arith in
    let in_counters : n < length counters = omega (arith, c.requires.width) in
    let is_counter : counter ≡ get_or counters n counter = get_or_default counters n no_counter counter in_counters in
    let as_before : get_or values n (pos 0) ≡ get_or old n (pos 0) = c.loop-c.invariant.rest n (omega arith) in
    let fits : FitsSigned w64 c.stepped-next.result = search rules in
    let value_fits : FitsSigned w64 (get_or values n (pos 0)) = search rules in
    let same_value : to_z w64 (of_z w64 (get_or values n (pos 0))) ≡ get_or old n (pos 0) = to_z-of_z w64 (get_or values n (pos 0)) value_fits ∙ as_before in
    let same_free : to_z w64 (of_z w64 free) ≡ free_from book k x = to_z-of_z w64 free (search rules) ∙ c.free_at-free.ensures.value in
    let written : to_z w64 (of_z w64 c.stepped-next.result) ≡ step_one book k x b n counter (get_or old n (pos 0)) =
    to_z-of_z w64 c.stepped-next.result fits ∙ c.stepped-next.ensures.value
    ∙ same_step book k x b row (to_z w64 (of_z w64 free)) c.activity_at-row.ensures same_free n c.counter_at-counter.result (to_z w64 (of_z w64 (get_or values n (pos 0)))) in_counters c.counter_at-counter.ensures
    ∙ ap (step_one book k x b n counter) same_value in
    let next = to_z w64 (of_z w64 c.stepped-next.result) in
    record {
      rest = λ i after. let other : i ≢ n = omega arith in get_or-set_other values n i next (pos 0) other ∙ c.loop-c.invariant.rest i (omega arith);
      stepped = step_from-more book k x b counters old values n counter next in_counters in_old in_values is_counter written c.loop-c.invariant.stepped;
      within = ap₂ (λ w t. w && t) c.loop-c.invariant.within (c.is_within-within.ensures ∙ ap (int_le next) c.counter_at-counter.ensures.limit)
          ∙ sym (within_limits-more counters values n counter next (omega (arith, c.requires.width)) in_values is_counter);
      grows = λ before m small.
          let starts : row.start ≡ start_of book b = c.activity_at-row.ensures.start in
          let free_before : to_z w64 (of_z w64 free) ≤ℤ row.start = omega (arith, ints, before, same_free, starts) in
          let least : pos 0 ≤ℤ next = omega (arith, ints, c.stepped-next.ensures.forward free_before) in
          let old_small : get_or old n (pos 0) ≤ℤ pos m = (small n (pos 0) in_old).most in
          let more : c.stepped-next.result ≤ℤ (get_or old n (pos 0) +ℤ pos 120_968_639) =
          subst (λ v. c.stepped-next.result ≤ℤ (v +ℤ pos 120_968_639)) same_value c.stepped-next.ensures.grows in
          All-same (IsWithin (pos 0) (pos (m + 120_968_639))) _ _ (take_more_set values n next in_values)
          (All-push (IsWithin (pos 0) (pos (m + 120_968_639))) (take n values) next (c.loop-c.invariant.grows before m small)
          (record { least = least; most = omega (arith, ints, old_small, more) }));
    }

-- no counter is left
pub returns-clause-grows : goal.returns-clause-grows
returns-clause-grows c = λ free m small.
    let all : length c.loop-c.values ≤ c.loop-c.c = omega arith in
    All-same (IsWithin (pos 0) (pos (m + 120_968_639))) _ _ (sym (take_all c.loop-c.c c.loop-c.values all)) (c.loop-c.invariant.grows free m small)
