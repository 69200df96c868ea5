use Rattle.std.proofs.Common.{◌≡◌, ◌++◌, map, take}
use Rattle.std.specs.Fmt.{signed_decimal}
use Rattle.cert_lines.specs.Spelling.{behind}
use Rattle.cert_lines.proofs.spelling.write_counters.Given as goal

-- the counters so far are written
abbrev pub invariant-loop-counter : goal.invariant-loop-counter
invariant-loop-counter l = l.line ≡ l.fn.line ++ behind (map signed_decimal (take l.counter-index l.counters))
