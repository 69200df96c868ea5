-- What the checker keeps of the lines that it took.
use Rattle.std.specs.Prelude.{ℕ, ℤ, List, Option}
use Rattle.tail_book.specs.declared.claim.Claim.{Claim}
use Rattle.branch_marks.specs.declared.fact.Fact.{Fact}
use Rattle.branch_marks.specs.Labels.{Label}

-- an open cover of an aircraft, or an open stuck leaf, which claims no value: the number of its line, the marks and duals that
-- it stands under, the least activity whose labels may still come, and its labels so far
pub record OpenLeaf : Type 0 where
  pub line : ℕ
  pub k : ℕ
  pub marks : List Fact
  pub duals : List ℤ
  pub value : Option ℤ
  pub next : ℕ
  pub family : List Label

-- a bound leaf: its marks, its duals so far, the least activity whose dual may still come, how many of its covers were begun, and
-- the sum of their values
pub record BoundLeaf : Type 0 where
  pub marks : List Fact
  pub duals : List ℤ
  pub next : ℕ
  pub covers : ℕ
  pub values : ℤ

-- a lean leaf: its marks, its duals so far, and the least activity whose dual may still come
pub record LeanLeaf : Type 0 where
  pub marks : List Fact
  pub duals : List ℤ
  pub next : ℕ

-- what stands directly before the next line: nothing; the header, a step, a split or a leaf that takes no duals; a bound leaf; a
-- lean leaf; a plan's lines, with who flies each activity so far; or the claim
pub data Section : Type 0 where
  Start : Section
  InTree : Section
  InBound : BoundLeaf → Section
  InLean : LeanLeaf → Section
  InPlan : List ℕ → Section
  Claimed : Claim → Section

-- how many lines were taken, the version that the header told, 0 before it, what stands before the next line, the marks of each
-- subtree that is owed, the next one first, the leaf that is open, and the least bound of the leaves so far
pub record State : Type 0 where
  pub lines : ℕ
  pub version : ℕ
  pub section : Section
  pub owed : List (List Fact)
  pub leaf : Option OpenLeaf
  pub low : Option ℕ
