-- Facts of which none comes twice. For MarkTables.antt beside it.
use Rattle.std.specs.Prelude.{◌≡◌, ⊤, List, [], ◌∷◌, ◌++◌, false}
use Rattle.branch_marks.specs.declared.fact.Fact.{Fact}
use Rattle.branch_marks.specs.FactTests.{has_fact}

-- none of the facts is among those before it, where some come before them all
abbrev pub AreOnceBehind : List Fact → List Fact → Type 0
AreOnceBehind before [] = ⊤
AreOnceBehind before (fact ∷ facts) = (has_fact before fact ≡ false) × AreOnceBehind (before ++ fact ∷ []) facts

-- no fact comes twice
abbrev pub AreOnce : List Fact → Type 0
AreOnce facts = AreOnceBehind [] facts
