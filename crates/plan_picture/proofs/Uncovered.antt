-- The bars of what no route has, one further on: the lines so far and the bars of what is left are all of them, so a
-- turn puts the bar of the next activity behind the lines.
use Rattle.std.proofs.Common.{◌≡◌, ◌∙◌, ℕ, ◌+◌, ◌<◌, ℤ, List, ◌++◌, ap, append_assoc, drop, get_or, length, sym}
use Rattle.std.proofs.lemmas.List.{drop_more}
use Rattle.tail_book.specs.Seen.{BookSeen}
use Rattle.plan_picture.specs.Rows.{uncovered_bar, uncovered_lines}

pub uncovered-more : (book : BookSeen) (first : ℤ) (row i : ℕ) (list : List ℕ) (all lines : List (List ℕ)) → i < length list
    → all ≡ lines ++ uncovered_lines book first row i (drop i list)
    → all ≡ (lines ++ uncovered_bar book first row i (get_or list i 0)) ++ uncovered_lines book first row (i + 1) (drop (i + 1) list)
uncovered-more book first row i list all lines within so_far =
    so_far ∙ ap (λ l. lines ++ uncovered_lines book first row i l) (drop_more list i 0 within) ∙ sym (append_assoc lines _ _)
