-- What adding a fact to marks answers, and what it leaves of them. For src/marks.rt.
use Rattle.std.specs.Prelude.{◌≡◌, [], ◌∷◌, ◌++◌, Contains}
use Rattle.branch_marks.specs.declared.fact.Fact.{Fact}
use Rattle.branch_marks.specs.declared.marks.Added.{Added}
use Rattle.branch_marks.specs.declared.marks.Added.TheVariants.{New, Known}
use Rattle.branch_marks.specs.MarksSeen.{MarksSeen}

-- each fact is kept once: a known one changes nothing, and a new one comes last
abbrev pub AddsOnce : MarksSeen → MarksSeen → Fact → Added → Type 0
AddsOnce old new fact Known = Contains old.facts fact × (new ≡ old)
AddsOnce old new fact New = (¬ Contains old.facts fact) × (new.facts ≡ old.facts ++ fact ∷ [])
