use Rattle.std.proofs.Common.{subst, IsTrue, pos, ◌+◌, ◌^◌, ◌≤ℤ◌}
use Rattle.std.proofs.lemmas.List.Elements.{All-weaker}
use Rattle.tail_book.specs.Counters.{WithinLimits}
use Rattle.tail_book.specs.Ranges.{IsWithin}
use Rattle.maint_counters.proofs.CountLemmas.{counts_of}
use Rattle.maint_counters.proofs.step_table.step_by.Goals as goal

-- stepped values within limits are counts, since every limit is
pub returns-clause-range : goal.returns-clause-range
returns-clause-range c = λ free holds.
    let rules = c.args.book.now.rules in
    let values = c.step_rows.new.values in
    let limits : WithinLimits rules.counters values = (c.limits_decide.ensures rules.counters values).0 (subst IsTrue c.step_rows.ensures.limits holds) in
    counts_of rules rules.counters values c.every_book_is_sound.ensures.rules.counters
    limits (All-weaker (IsWithin (pos 0) (pos (2 ^ 61 + 120_968_639))) (λ v. pos 0 ≤ℤ v) (λ v w. w.least) values (c.step_rows.ensures.grows free (2 ^ 61) c.requires.range))
