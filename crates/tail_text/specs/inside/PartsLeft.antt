-- The parts that are still to be taken: those of the text that is left, and none once the last is taken. For src/parts.rt.
use Rattle.std.specs.Prelude.{ℕ, List, [], Option, Some, None}
use Rattle.std.specs.Borrow.{Bor}
use Rattle.tail_text.specs.Parts.{parts_of}

-- the parts of the text that is left, where one is
abbrev pub parts_left : ℕ → Option (Bor (List ℕ)) → List (List ℕ)
parts_left byte None = []
parts_left byte (Some text) = parts_of byte text.now
