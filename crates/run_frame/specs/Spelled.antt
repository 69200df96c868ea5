-- Words as contracts see them: the bytes of each, in order. For src/words.rt.
use Rattle.std.specs.Prelude.{ℕ, List, String, map, string_bytes}

-- the bytes of each word
abbrev pub spelled : {Z : Type 0} → List (String Z) → List (List ℕ)
spelled words = map string_bytes words
