use Rattle.std.proofs.Common.{◌≡◌, length, take}
use Rattle.cert_lines.proofs.CounterLemmas.{AreRead}
use Rattle.cert_lines.proofs.words.counters_in.Given as goal

-- the counters so far are read
abbrev pub invariant-loop-word : goal.invariant-loop-word
invariant-loop-word l = AreRead l.fn.words l.words l.count (take l.count l.values) × (length l.values ≡ 6)

abbrev pub decreases-loop-word : goal.decreases-loop-word
decreases-loop-word l = length l.words
