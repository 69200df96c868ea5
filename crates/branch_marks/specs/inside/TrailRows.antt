-- How a trail keeps its facts: each is a row of three numbers. For src/trail.rt.
use Rattle.std.specs.Prelude.{ℕ, zero, suc, ℤ, pos, negsuc, ◌≡◌, ◌<◌, ◌^◌, List, [], ◌∷◌, All, slice_index_or}
use Rattle.label_cells.specs.Seen.{CellsSeen}
use Rattle.branch_marks.specs.declared.fact.Fact.{Fact}
use Rattle.branch_marks.specs.declared.fact.Fact.TheVariants.{Bar, Must, Cut, Tie}

-- the row of a fact: its kind, and its two numbers
abbrev pub row_of : Fact → List ℤ
row_of (Bar k a) = pos 0 ∷ pos k ∷ pos a ∷ []
row_of (Must k a) = pos 1 ∷ pos k ∷ pos a ∷ []
row_of (Cut a b) = pos 2 ∷ pos a ∷ pos b ∷ []
row_of (Tie a b) = pos 3 ∷ pos a ∷ pos b ∷ []

-- a fact of this kind
abbrev pub fact_with : ℕ → ℕ → ℕ → Fact
fact_with zero a b = Bar a b
fact_with (suc zero) a b = Must a b
fact_with (suc (suc zero)) a b = Cut a b
fact_with (suc (suc (suc kind))) a b = Tie a b

-- a number of a row that has none below 0
abbrev pub natural : ℤ → ℕ
natural (pos n) = n
natural (negsuc n) = 0

-- the fact of a row
abbrev pub fact_of : List ℤ → Fact
fact_of row = fact_with (natural (slice_index_or row 0 (pos 0))) (natural (slice_index_or row 1 (pos 0))) (natural (slice_index_or row 2 (pos 0)))

-- a number of 32 bits
abbrev pub IsNumber : ℤ → Type 0
IsNumber z = (n : ℕ) × (n < 2 ^ 32) × (z ≡ pos n)

-- cells of such rows
pub record AreFactRows (cells : CellsSeen) : Type 0 where
  pub width : cells.width ≡ 3
  pub numbers : All (λ row. All IsNumber row) cells.rows
