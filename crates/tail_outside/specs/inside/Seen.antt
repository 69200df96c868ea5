-- What clauses see of files and sinks in memory: records of lists and numbers.
-- For src/calls.rt, src/mem_files.rt and others.
use Rattle.std.specs.Prelude.{ℕ, Bool, List}

-- a file: its name and its bytes
pub record FileSeen : Type 0 where
  pub name : List ℕ
  pub bytes : List ℕ

-- the calls of one object: the numbers of those that fail, counted from 1, and how many were made
pub record CallsSeen : Type 0 where
  pub failing : List ℕ
  pub made : ℕ

-- files in memory, with their calls, and how many reads and how many writes have failed
pub record MemFilesSeen : Type 0 where
  pub files : List FileSeen
  pub calls : CallsSeen
  pub read_faults : ℕ
  pub write_faults : ℕ

-- a sink in memory: the bytes that it took, its calls, and how many of them have failed
pub record MemSinkSeen : Type 0 where
  pub bytes : List ℕ
  pub calls : CallsSeen
  pub faults : ℕ

-- real files: how many reads and how many writes have failed
pub record RealFilesSeen : Type 0 where
  pub read_faults : ℕ
  pub write_faults : ℕ

-- the real output: how many pieces have failed
pub record RealOutSeen : Type 0 where
  pub faults : ℕ

-- a sink that never fails: its bytes, how many more it takes, and whether it has ceased
pub record SureSinkSeen : Type 0 where
  pub bytes : List ℕ
  pub left : ℕ
  pub ceased : Bool

-- a file that never fails: its name, and the sink that holds its bytes
pub record SureFileSeen : Type 0 where
  pub name : List ℕ
  pub sink : SureSinkSeen
