use Rattle.std.proofs.Common.{◌≡◌, ◌+◌, ◌<◌, ◌∙◌, ℤ, Bool, pos, cond, rules, arith, length, get_or, subst, sym, ap, ap₂, ◌++◌, to_z, of_z, w64, FitsSigned, drop}
use Rattle.std.proofs.lemmas.Int.{to_z-of_z}
use Rattle.std.proofs.lemmas.List.{get_or_default}
use Rattle.tail_book.specs.Seen.{CounterSeen}
use Rattle.tail_book.specs.declared.rules.CounterKind.{CounterKind}
use Rattle.maint_counters.specs.inside.StepTable.{no_counter}
use Rattle.pricing.specs.Rows.{counters_of}
use Rattle.pricing.specs.inside.Lines.{key_one, key_by, keys, clears}
use Rattle.pricing.proofs.KeyLemmas.{key_more, values_long, key_done}
use Rattle.pricing.proofs.waiting.write_keys.Goals as goal

-- one key more is written
pub loop-c-preserved : goal.loop-c-preserved
loop-c-preserved c =
    let port = c.args.port in
    let lo = c.args.window.lo in
    let arrival = to_z w64 (of_z w64 c.args.arrival) in
    let counters = c.args.counters.now in
    let values = counters_of c.args.row.now in
    let n = c.loop-c.c in
    let counter = c.index-counters-c.result in
    let fits_value : FitsSigned w64 c.value_at.result = search rules in
    let fits : FitsSigned w64 c.key_one-one.result = search rules in
    let within : n < length counters = omega arith in
    let long : n < length values = subst (λ m. n < m) (sym (values_long c.args.row.now _ c.requires.width)) within in
    let there : get_or counters n no_counter ≡ counter = get_or_default counters n no_counter counter within ∙ sym c.index-counters-c.is in
    let cleared : c.has.result ≡ clears port lo counter = c.has.ensures ∙ c.requires.cleared n within ∙ ap (clears port lo) there in
    let kind : c.counter.inside.kind ≡ counter.kind = ap (λ (s : CounterSeen). s.kind) c.counter.view_is in
    let value : to_z w64 (of_z w64 c.value_at.result) ≡ get_or values n (pos 0) = to_z-of_z w64 c.value_at.result fits_value ∙ c.value_at.ensures.value in
    let next = to_z w64 (of_z w64 c.key_one-one.result) in
    let is_next : next ≡ key_one port lo arrival counter (get_or values n (pos 0)) =
    to_z-of_z w64 c.key_one-one.result fits ∙ c.key_one-one.ensures
    ∙ ap₂ (λ (t : Bool) (of : CounterKind). cond t (pos 0) (key_by of arrival (to_z w64 (of_z w64 c.value_at.result)))) cleared kind
    ∙ ap (λ (v : ℤ). cond (clears port lo counter) (pos 0) (key_by counter.kind arrival v)) value in
    c.loop-c.invariant
    ∙ key_more port lo arrival counters values c.loop-c.key.items n counter next within long c.index-counters-c.is is_next
    ∙ ap (λ i. i ++ keys port lo arrival (drop (n + 1) counters) (drop (n + 1) values)) (sym c.in_ok-push.ensures.items)

-- all are written
pub returns : goal.returns
returns c =
    let old = c.args.key.now.items in
    let fits : FitsSigned w64 c.args.arrival = search rules in
    let written = key_done c.args.port c.args.window.lo (to_z w64 (of_z w64 c.args.arrival)) c.args.counters.now (counters_of c.args.row.now) _ _ c.loop-c.c (omega arith) c.loop-c.invariant in
    written ∙ ap (λ a. old ++ keys c.args.port c.args.window.lo a c.args.counters.now (counters_of c.args.row.now)) (to_z-of_z w64 c.args.arrival fits)
