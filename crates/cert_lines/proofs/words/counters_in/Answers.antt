use Rattle.std.proofs.Common.{◌≡◌, ◌<◌, arith, rules, w64, length, to_z, of_z}
use Rattle.std.proofs.lemmas.Int.{to_z-of_z}
use Rattle.std.proofs.lemmas.List.{take_more_set}
use Rattle.cert_lines.proofs.CounterLemmas.{reads-all, reads-bad, reads-more}
use Rattle.cert_lines.proofs.words.counters_in.Goals as goal

-- a word that is no counter decides
pub returns-in_err-values : goal.returns-in_err-values
returns-in_err-values c =
    let bad = reads-bad _ _ _ _ c.loop-word.invariant.0 _ _ c.in-Some.ensures (search rules) in
    search (rules, bad)

-- a counter stands behind those before it
pub loop-word-preserved : goal.loop-word-preserved
loop-word-preserved c =
    let given : to_z w64 (of_z w64 c.in_ok-values.field-0) ≡ c.in_ok-values.field-0 = to_z-of_z w64 c.in_ok-values.field-0 (search rules) in
    let room : c.loop-word.count < length c.loop-word.values = omega (arith, c.loop-word.invariant.1, c.if-count-ge-COUNTER_LIMIT.false) in
    rw given (reads-more _ _ _ _ c.loop-word.invariant.0 _ _ c.in-Some.ensures c.if-count-ge-COUNTER_LIMIT.false _ (search rules) _ (take_more_set c.loop-word.values c.loop-word.count c.in_ok-values.field-0 room), search rules)

-- all words are counters
pub returns : goal.returns
returns c = search (rules, reads-all _ _ _ _ c.loop-word.invariant.0 c.in_default.ensures.0)
