use Rattle.std.proofs.Common.{◌≡◌, ◌++◌, [], replicate}
use Rattle.label_cells.proofs.cells.claim_chunks.Given as goal

-- so many have been claimed
abbrev pub invariant-loop : goal.invariant-loop
invariant-loop l = l.chunks.items ≡ l.initial.chunks.items ++ replicate l.counter (record { values = []; room = l.room })
