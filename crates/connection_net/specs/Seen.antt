-- What contracts see of a network: its rows, each as a list. For src/net.rt.
use Rattle.std.specs.Prelude.{ℕ, List}

-- the network: for each activity those that may come directly after it and those that it may come directly after, and
-- for each aircraft those that may be its first
pub record NetSeen : Type 0 where
  pub successors : List (List ℕ)
  pub predecessors : List (List ℕ)
  pub heads : List (List ℕ)
