use Rattle.std.proofs.Common.{◌≡◌, not, bytes_eq, length}
use Rattle.tail_book.specs.Pairs.{each_pair}
use Rattle.tail_book.proofs.sound.names_differ.Given as goal

-- what is left decides
abbrev pub invariant-loop-first : goal.invariant-loop-first
invariant-loop-first g l =
    each_pair (λ a b. not (bytes_eq (g.T.Named.name_of a) (g.T.Named.name_of b))) l.items ≡ each_pair (λ a b. not (bytes_eq (g.T.Named.name_of a) (g.T.Named.name_of b))) l.rest

abbrev pub decreases-loop-first : goal.decreases-loop-first
decreases-loop-first g l = length l.rest
