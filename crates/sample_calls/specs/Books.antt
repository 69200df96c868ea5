-- What is shown of texts that are refused: the line of their refusal, and nothing where they are a book.
use Rattle.std.specs.Prelude.{ℕ, List, Option, Some, None, Result, Ok, Err}
use Rattle.tail_book.specs.Seen.{BookSeen}
use Rattle.tail_text.specs.declared.refusal.Refusal.{Refusal}
use Rattle.plan_report.specs.Refused.{refusal_line}

-- the line of the refusal, and nothing where there is a book
abbrev pub refusal_text : Result BookSeen Refusal → Option (List ℕ)
refusal_text (Ok book) = None
refusal_text (Err refusal) = Some (refusal_line refusal)
