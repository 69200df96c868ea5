use Rattle.std.proofs.Common.{sym}
use Rattle.std.proofs.lemmas.List.{append-nil}
use Rattle.cert_lines.specs.inside.Writing.{word_text}
use Rattle.cert_lines.proofs.WriteSteps.{word_cut, word_written}
use Rattle.cert_lines.proofs.spelling.write_behind.Goals as goal

pub loop-word-init : goal.loop-word-init
loop-word-init c = sym (append-nil c.args.line.now)

-- memory ended in the middle of a word
pub returns-in-Err-clause-memory : goal.returns-in-Err-clause-memory
returns-in-Err-clause-memory c =
    word_cut word_text c.args.words.now c.loop-word.word-index c.loop-word-test.true _ c.args.line.now c.loop-word.line c.write_word.new.line c.loop-word.invariant c.in-Err.ensures.memory

-- the word is written
pub loop-word-preserved : goal.loop-word-preserved
loop-word-preserved c =
    word_written word_text c.args.words.now c.loop-word.word-index c.loop-word-test.true _ c.args.line.now c.loop-word.line c.write_word.new.line c.loop-word.invariant c.in_default.ensures.ok
