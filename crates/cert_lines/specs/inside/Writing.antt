-- The words behind the first ones, as the code has them, and what is there of a spelling where memory ran out.
-- For src/spelling.rt.
use Rattle.std.specs.Prelude.{ℕ, ◌≡◌, List, ◌++◌, decimal, codes}
use Rattle.std.specs.Fmt.{signed_decimal}
use Rattle.cert_lines.specs.declared.spelling.Word.{Word}
use Rattle.cert_lines.specs.declared.spelling.Word.TheVariants.{Number, Value, Hyphen}

-- the word as it is written
abbrev pub word_text : Word → List ℕ
word_text (Number n) = decimal n
word_text (Value v) = signed_decimal v
word_text Hyphen = codes "-"

-- a front of the text was appended
abbrev pub AddsFront : List ℕ → List ℕ → List ℕ → Type 0
AddsFront old new text = (taken : List ℕ) × (rest : List ℕ) × (text ≡ taken ++ rest) × (new ≡ old ++ taken)
