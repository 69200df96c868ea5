-- A failure is told with a line: it depends on the text up to that line, and on nothing behind it. For src/laws.rt.
use Rattle.std.specs.Prelude.{◌≡◌, ℕ, suc, ◌+◌, ◌<◌, ◌==◌, List, [], ◌∷◌, Bool, false, Option, Some, None, length, take, drop, if◌then◌else◌}
use Rattle.tail_book.specs.Seen.{BookSeen}
use Rattle.tail_text.specs.Parts.{parts_of}
use Rattle.cert_lines.specs.declared.cert_line.CertLine.{CertLine}
use Rattle.cert_lines.specs.Reading.{line_of}
use Rattle.cert_checker.specs.Reasons.{number_of_reason}
use Rattle.cert_checker.specs.Verdict.{is_label, verdict}
use Rattle.cert_checker.specs.declared.verdict.Reason.TheVariants.{OpenCover}
use Rattle.cert_checker.specs.declared.verdict.Verdict.TheVariants.{No}

-- a text that is read as a label
abbrev pub is_label_read : Option CertLine → Bool
is_label_read None = false
is_label_read (Some line) = is_label line

-- how many labels the lines begin with
abbrev pub labels_first : List (List ℕ) → ℕ
labels_first [] = 0
labels_first (text ∷ texts) = if is_label_read (line_of text) then suc (labels_first texts) else 0

-- the number of the line that a failure is told with: for an open cover or stuck leaf the next line behind its labels, and for
-- every other failure its own
abbrev pub told_with : List (List ℕ) → ℕ → ℕ → ℕ
told_with lines n reason = if reason == number_of_reason OpenCover then n + labels_first (drop n lines) + 1 else n

-- both texts have so many lines that a newline ends, and these are the same
pub record HaveSameLines (n : ℕ) (text other : List ℕ) : Type 0 where
  pub ended : n < length (parts_of 10 text)
  pub ended_too : n < length (parts_of 10 other)
  pub same : take n (parts_of 10 text) ≡ take n (parts_of 10 other)

-- texts that are the same up to the line that a failure of one is told with have that failure both. A failure at the end of a text,
-- where no claim was made or no newline ends the last line, has the number of what stands behind the last newline, which is no
-- line that is ended: of it nothing is said, since with more text there may be another verdict
abbrev pub FailuresDependOnLines : Type 0
FailuresDependOnLines = (book : BookSeen) (text other : List ℕ) (n reason : ℕ) → verdict book text ≡ No n reason
    → HaveSameLines (told_with (parts_of 10 text) n reason) text other → verdict book other ≡ No n reason
