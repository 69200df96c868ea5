use Rattle.std.proofs.Common.{◌≡◌, map}
use Rattle.std.specs.List.{range_with_len}
use Rattle.connection_net.specs.Net.{heads_of}
use Rattle.connection_net.proofs.net.all_heads.Given as goal

-- the rows so far
abbrev pub invariant-loop-k : goal.invariant-loop-k
invariant-loop-k l = l.rows ≡ map (heads_of l.book) (range_with_len 0 l.k)
