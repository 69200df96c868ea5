-- A place of the search tree at which a node is owed. For src/leaf.rt.
use Rattle.std.specs.Prelude.{ℤ, List, []}
use Rattle.tail_book.specs.Seen.{BookSeen}
use Rattle.branch_marks.specs.declared.fact.Fact.{Fact}
use Rattle.branch_marks.specs.ProofTree.{zero_duals}

-- a place at which a node is owed: its marks, and the duals of its parent
pub record Open : Type 0 where
  pub marks : List Fact
  pub duals : List ℤ

-- the place of these marks, under these duals
abbrev pub open_place : List Fact → List ℤ → Open
open_place marks duals = record { marks = marks; duals = duals }

-- the root has no facts, and duals that are all 0
abbrev pub root : BookSeen → Open
root book = record { marks = []; duals = zero_duals book }
