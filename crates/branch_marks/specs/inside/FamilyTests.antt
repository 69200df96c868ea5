-- That each of these tests is true exactly where its fact holds. For src/laws/covering.rt.
use Rattle.std.specs.Prelude.{ℕ, ℤ, List}
use Rattle.std.specs.Bool.{Decides}
use Rattle.tail_book.specs.Seen.{BookSeen}
use Rattle.tail_book.specs.TableSeen.{CostTableSeen}
use Rattle.branch_marks.specs.declared.fact.Fact.{Fact}
use Rattle.branch_marks.specs.Labels.{Label, Covers}
use Rattle.branch_marks.specs.Families.{IsClosedFamily, EndsAtLeast, HasNoEnd}
use Rattle.branch_marks.specs.FamilyTests.{covers, is_closed_family, ends_at_least, has_no_end}

-- each test is true exactly where its definition holds
abbrev pub CoversDecides : Type 0
CoversDecides = (label other : Label) → Decides (covers label other) (Covers label other)

abbrev pub ClosedFamilyDecides : Type 0
ClosedFamilyDecides = (table : CostTableSeen) (book : BookSeen) (marks : List Fact) (k : ℕ) (duals : List ℤ) (family : List Label)
    → Decides (is_closed_family table book marks k duals family) (IsClosedFamily table book marks k duals family)

abbrev pub EndsDecide : Type 0
EndsDecide = (marks : List Fact) (k : ℕ) (family : List Label) (low : ℤ) → Decides (ends_at_least marks k family low) (EndsAtLeast marks k family low)

abbrev pub NoEndDecides : Type 0
NoEndDecides = (marks : List Fact) (k : ℕ) (family : List Label) → Decides (has_no_end marks k family) (HasNoEnd marks k family)
