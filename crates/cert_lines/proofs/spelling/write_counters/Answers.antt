use Rattle.std.proofs.Common.{sym}
use Rattle.std.proofs.lemmas.List.{append-nil}
use Rattle.std.specs.Fmt.{signed_decimal}
use Rattle.cert_lines.proofs.WriteSteps.{word_cut, word_written}
use Rattle.cert_lines.proofs.spelling.write_counters.Goals as goal

pub loop-counter-init : goal.loop-counter-init
loop-counter-init c = sym (append-nil c.args.line.now)

-- memory ended in the middle of a word
pub returns-in-Err-clause-memory : goal.returns-in-Err-clause-memory
returns-in-Err-clause-memory c =
    word_cut signed_decimal c.args.counters.now c.loop-counter.counter-index c.loop-counter-test.true _ c.args.line.now c.loop-counter.line c.write_counter.new.line c.loop-counter.invariant c.in-Err.ensures.memory

-- the word is written
pub loop-counter-preserved : goal.loop-counter-preserved
loop-counter-preserved c =
    word_written signed_decimal c.args.counters.now c.loop-counter.counter-index c.loop-counter-test.true _ c.args.line.now c.loop-counter.line c.write_counter.new.line c.loop-counter.invariant c.in_default.ensures.ok
