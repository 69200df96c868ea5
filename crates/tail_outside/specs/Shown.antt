-- What files and sinks show: the bytes that they tell, and how many of their calls have failed. For src/outside.rt.
use Rattle.std.specs.Prelude.{ℕ, Bool, List, Option}

-- what files show: by its name, the bytes of each file where they are told, whether it may be read, whether it may be
-- written, and whether nothing is told of it from then on; and how many reads and how many writes have failed
pub record FilesShown : Type 0 where
  pub holds : List ℕ → Option (List ℕ)
  pub lets_read : List ℕ → Bool
  pub lets_write : List ℕ → Bool
  pub ceased : List ℕ → Bool
  pub read_faults : ℕ
  pub write_faults : ℕ

-- what a sink shows: the bytes that it took where they are told, whether nothing is told from then on, and how many
-- pieces have failed
pub record SinkShown : Type 0 where
  pub told : Option (List ℕ)
  pub ceased : Bool
  pub faults : ℕ
