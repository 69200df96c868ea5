-- What is appended piece by piece is appended as a whole, since appending is associative. Lines of six, seven, nine and
-- eleven pieces have a lemma each, and so have four and six parts of the whole picture.
use Rattle.std.proofs.Common.{◌≡◌, ◌++◌, List, append_assoc}

pub six : {A : Type 0} (a x₁ x₂ x₃ x₄ x₅ x₆ : List A) → a ++ x₁ ++ x₂ ++ x₃ ++ x₄ ++ x₅ ++ x₆ ≡ a ++ (x₁ ++ x₂ ++ x₃ ++ x₄ ++ x₅ ++ x₆)
six a x₁ x₂ x₃ x₄ x₅ x₆ = simp append_assoc

pub seven : {A : Type 0} (a x₁ x₂ x₃ x₄ x₅ x₆ x₇ : List A) → a ++ x₁ ++ x₂ ++ x₃ ++ x₄ ++ x₅ ++ x₆ ++ x₇ ≡ a ++ (x₁ ++ x₂ ++ x₃ ++ x₄ ++ x₅ ++ x₆ ++ x₇)
seven a x₁ x₂ x₃ x₄ x₅ x₆ x₇ = simp append_assoc

pub nine : {A : Type 0} (a x₁ x₂ x₃ x₄ x₅ x₆ x₇ x₈ x₉ : List A)
    → a ++ x₁ ++ x₂ ++ x₃ ++ x₄ ++ x₅ ++ x₆ ++ x₇ ++ x₈ ++ x₉ ≡ a ++ (x₁ ++ x₂ ++ x₃ ++ x₄ ++ x₅ ++ x₆ ++ x₇ ++ x₈ ++ x₉)
nine a x₁ x₂ x₃ x₄ x₅ x₆ x₇ x₈ x₉ = simp append_assoc

pub eleven : {A : Type 0} (a x₁ x₂ x₃ x₄ x₅ x₆ x₇ x₈ x₉ y z : List A)
    → a ++ x₁ ++ x₂ ++ x₃ ++ x₄ ++ x₅ ++ x₆ ++ x₇ ++ x₈ ++ x₉ ++ y ++ z ≡ a ++ (x₁ ++ x₂ ++ x₃ ++ x₄ ++ x₅ ++ x₆ ++ x₇ ++ x₈ ++ x₉ ++ y ++ z)
eleven a x₁ x₂ x₃ x₄ x₅ x₆ x₇ x₈ x₉ y z = simp append_assoc

-- four parts and six, each appended to what stood before
pub four_parts : {A : Type 0} (a l₁ l₂ l₃ l₄ x₁ x₂ x₃ x₄ : List A) → l₁ ≡ a ++ x₁ → l₂ ≡ l₁ ++ x₂ → l₃ ≡ l₂ ++ x₃ → l₄ ≡ l₃ ++ x₄
    → l₄ ≡ a ++ (x₁ ++ x₂ ++ x₃ ++ x₄)
four_parts a l₁ l₂ l₃ l₄ x₁ x₂ x₃ x₄ e₁ e₂ e₃ e₄ = rw (e₄, e₃, e₂, e₁) (parts a x₁ x₂ x₃ x₄)
  where
    parts : {A : Type 0} (a x₁ x₂ x₃ x₄ : List A) → a ++ x₁ ++ x₂ ++ x₃ ++ x₄ ≡ a ++ (x₁ ++ x₂ ++ x₃ ++ x₄)
    parts a x₁ x₂ x₃ x₄ = simp append_assoc

pub six_parts : {A : Type 0} (a l₁ l₂ l₃ l₄ l₅ l₆ x₁ x₂ x₃ x₄ x₅ x₆ : List A)
    → l₁ ≡ a ++ x₁ → l₂ ≡ l₁ ++ x₂ → l₃ ≡ l₂ ++ x₃ → l₄ ≡ l₃ ++ x₄ → l₅ ≡ l₄ ++ x₅ → l₆ ≡ l₅ ++ x₆
    → l₆ ≡ a ++ (x₁ ++ x₂ ++ x₃ ++ x₄ ++ x₅ ++ x₆)
six_parts a l₁ l₂ l₃ l₄ l₅ l₆ x₁ x₂ x₃ x₄ x₅ x₆ e₁ e₂ e₃ e₄ e₅ e₆ = rw (e₆, e₅, e₄, e₃, e₂, e₁) (six a x₁ x₂ x₃ x₄ x₅ x₆)
