use Rattle.std.proofs.Common.{◌≡◌, ◌++◌, map, take}
use Rattle.cert_lines.specs.Spelling.{behind}
use Rattle.cert_lines.specs.inside.Writing.{word_text}
use Rattle.cert_lines.proofs.spelling.write_behind.Given as goal

-- the words so far are written
abbrev pub invariant-loop-word : goal.invariant-loop-word
invariant-loop-word l = l.line ≡ l.fn.line ++ behind (map word_text (take l.word-index l.words))
