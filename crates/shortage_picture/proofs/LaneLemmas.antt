-- The bars of a side, one further on: the lines so far and the bars of what is left are all of them, so a turn puts the bar of the
-- next activity behind the lines. Five lines, and five parts of the
-- picture, are appended one by one.
use Rattle.std.proofs.Common.{◌≡◌, ◌∙◌, ℕ, ◌+◌, ◌<◌, ℤ, List, [], ◌∷◌, ◌++◌, ap, append_assoc, drop, get_or, length, sym}
use Rattle.std.proofs.lemmas.List.{drop_more}
use Rattle.tail_book.specs.Seen.{BookSeen}
use Rattle.shortage_picture.specs.Lanes.{lane_lines, lanes_from}
use Rattle.shortage_picture.specs.declared.sides.Side.{Side}

pub lanes-more : (book : BookSeen) (side : Side) (first : ℤ) (width row i : ℕ) (list : List ℕ) (all lines : List (List ℕ)) → i < length list
    → all ≡ lines ++ lanes_from book side first width row i (drop i list)
    → all ≡ (lines ++ lane_lines book side first width row i (get_or list i 0)) ++ lanes_from book side first width row (i + 1) (drop (i + 1) list)
lanes-more book side first width row i list all lines within so_far =
    so_far ∙ ap (λ l. lines ++ lanes_from book side first width row i l) (drop_more list i 0 within) ∙ sym (append_assoc lines _ _)

pub five_lines : {A : Type 0} (a l₁ l₂ l₃ l₄ l₅ : List A) (x₁ x₂ x₃ x₄ x₅ : A) → l₁ ≡ a ++ x₁ ∷ [] → l₂ ≡ l₁ ++ x₂ ∷ [] → l₃ ≡ l₂ ++ x₃ ∷ []
    → l₄ ≡ l₃ ++ x₄ ∷ [] → l₅ ≡ l₄ ++ x₅ ∷ [] → l₅ ≡ a ++ (x₁ ∷ x₂ ∷ x₃ ∷ x₄ ∷ x₅ ∷ [])
five_lines a l₁ l₂ l₃ l₄ l₅ x₁ x₂ x₃ x₄ x₅ e₁ e₂ e₃ e₄ e₅ = rw (e₅, e₄, e₃, e₂, e₁) (simp append_assoc)

pub five_parts : {A : Type 0} (a l₁ l₂ l₃ l₄ l₅ x₁ x₂ x₃ x₄ x₅ : List A) → l₁ ≡ a ++ x₁ → l₂ ≡ l₁ ++ x₂ → l₃ ≡ l₂ ++ x₃ → l₄ ≡ l₃ ++ x₄ → l₅ ≡ l₄ ++ x₅
    → l₅ ≡ a ++ (x₁ ++ x₂ ++ x₃ ++ x₄ ++ x₅)
five_parts a l₁ l₂ l₃ l₄ l₅ x₁ x₂ x₃ x₄ x₅ e₁ e₂ e₃ e₄ e₅ = rw (e₅, e₄, e₃, e₂, e₁) (simp append_assoc)
