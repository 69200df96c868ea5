-- A list looked at from left to right: what is found so far stands before what the rest gives.
--
-- A turn moves what one element gives from the rest to what is found. An element that gives nothing makes the rest, and
-- so the whole, give its code.
use Rattle.std.proofs.Common.{◌≡◌, ◌∙◌, ◌<◌, ◌≤◌, ℕ, ◌+◌, List, [], ◌∷◌, ◌++◌, Result, Ok, Err, length, get_or, drop, refl, ap}
use Rattle.std.proofs.lemmas.List.{append-nil, drop_all, drop_more}
use Rattle.tail_text.specs.Checks.{look_each}
use Rattle.tail_text.specs.inside.Joined.{joined, joined-bad, joined-good}

module _ {A B : Type 0} (give : A → Result B ℕ) (list : List A) (i : ℕ) (found : List B)
    (known : look_each give list ≡ joined found (look_each give (drop i list))) where
  module _ (x : A) (within : i < length list) (here : x ≡ get_or list i x) where
    ahead : drop i list ≡ x ∷ drop (i + 1) list
    ahead = drop_more list i x within ∙ rw (← here) refl

    next : look_each give list ≡ joined found (look_each give (x ∷ drop (i + 1) list))
    next = known ∙ ap (λ more. joined found (look_each give more)) ahead

    -- one that gives nothing decides
    pub each-bad : (code : ℕ) → Err code ≡ give x → look_each give list ≡ Err code
    each-bad code e = next ∙ joined-bad found (give x) (look_each give (drop (i + 1) list)) code e

    -- what one gives joins what is found
    pub each-good : (b : B) → Ok b ≡ give x → look_each give list ≡ joined (found ++ b ∷ []) (look_each give (drop (i + 1) list))
    each-good b e = next ∙ joined-good found (give x) (look_each give (drop (i + 1) list)) b e

  -- behind the last one all is found
  pub each-end : length list ≤ i → look_each give list ≡ Ok found
  each-end h = known ∙ ap (λ more. joined found (look_each give more)) (drop_all i list h) ∙ rw append-nil refl
