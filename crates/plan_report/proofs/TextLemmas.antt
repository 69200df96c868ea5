-- A text that was put together of lines has these lines again, by induction on them: none has a newline inside, so the
-- first newline of the text ends the first line, and what is behind it is the text of the others.
use Rattle.std.proofs.Common.{◌≡◌, ◌∙◌, ℕ, List, [], ◌∷◌, ◌++◌, refl, ap, map, append_assoc}
use Rattle.std.proofs.lemmas.List.Splits.{slice_split_at}
use Rattle.std.specs.List.{AllByRecursion}
use Rattle.std.specs.Prelude.{◌==◌}
use Rattle.plan_report.specs.Lines.{newline, text_of}
use Rattle.tail_text.specs.Parts.{parts_of}
use Rattle.plan_report.specs.TextLines.{LineSeen, lines_among, lines_of, whole_line}
use Rattle.plan_report.proofs.NameBytes.{Lacks}

-- a line's text with its newline
abbrev pub ended : List ℕ → List ℕ
ended text = text ++ newline

-- the parts are the lines, and nothing stands behind the last newline
parts_of-text : (texts : List (List ℕ)) → AllByRecursion (Lacks 10) texts → parts_of 10 (text_of (map ended texts)) ≡ texts ++ [] ∷ []
parts_of-text [] h = refl
parts_of-text (text ∷ texts) h =
    rw append_assoc (slice_split_at (λ b. b == 10) text 10 (text_of (map ended texts)) h.0 refl ∙ ap (λ (parts : List (List ℕ)). text ∷ parts) (parts_of-text texts h.1))

lines_among-whole : (texts : List (List ℕ)) → lines_among (texts ++ [] ∷ []) ≡ map whole_line texts
lines_among-whole [] = refl
lines_among-whole (text ∷ []) = refl
lines_among-whole (text ∷ next ∷ texts) = ap (λ (lines : List LineSeen). whole_line text ∷ lines) (lines_among-whole (next ∷ texts))

pub lines_of-text : (texts : List (List ℕ)) → AllByRecursion (Lacks 10) texts → lines_of (text_of (map ended texts)) ≡ map whole_line texts
lines_of-text texts h = rw (parts_of-text texts h) (lines_among-whole texts)
