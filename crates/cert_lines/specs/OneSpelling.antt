-- Each line has one spelling, and each text is one line at most. For src/line_reader.rt and src/laws.rt.
use Rattle.std.specs.Prelude.{◌≡◌, ℕ, ◌≤◌, List, Some, All, length}
use Rattle.cert_lines.specs.declared.cert_line.CertLine.{CertLine}
use Rattle.cert_lines.specs.declared.cert_line.TheConstants.{LENGTH_LIMIT}
use Rattle.cert_lines.specs.Grammar.{IsLine}
use Rattle.cert_lines.specs.Reading.{line_of}
use Rattle.cert_lines.specs.Spelling.{spelling}

-- the text spells the line, which a certificate may have
abbrev pub IsSpelling : List ℕ → CertLine → Type 0
IsSpelling text line = IsLine line × (text ≡ spelling line)

-- a text that is read as a line is the spelling of that line
abbrev pub ReadLinesAreSpelled : Type 0
ReadLinesAreSpelled = (text : List ℕ) (line : CertLine) → line_of text ≡ Some line → IsSpelling text line

-- the spelling of a line is read as that line
abbrev pub SpelledLinesAreRead : Type 0
SpelledLinesAreRead = (line : CertLine) → IsLine line → line_of (spelling line) ≡ Some line

-- no spelling is longer than a line may be, and none has a newline: each of its bytes is a space or comes behind it
abbrev pub SpelledLinesAreShort : Type 0
SpelledLinesAreShort = (line : CertLine) → IsLine line → (length (spelling line) ≤ LENGTH_LIMIT) × All (λ c. 32 ≤ c) (spelling line)
