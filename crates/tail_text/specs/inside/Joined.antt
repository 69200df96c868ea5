-- What a loop has read so far, before what is still left to read: the invariant of every reader of a list.
use Rattle.std.specs.Prelude.{◌≡◌, List, [], ◌∷◌, ◌++◌, Result, Ok, Err}
use Rattle.std.proofs.Common.{refl, append_assoc}
use Rattle.tail_text.specs.Checks.{look}

-- what was read before what the rest gives, or the rest's refusal
abbrev pub joined : {A E : Type 0} → List A → Result (List A) E → Result (List A) E
joined so_far (Ok more) = Ok (so_far ++ more)
joined so_far (Err why) = Err why

-- at the start nothing was read
pub joined-nil : {A E : Type 0} (left : Result (List A) E) → joined [] left ≡ left
joined-nil (Ok more) = refl
joined-nil (Err why) = refl

-- an item in front of what the rest gives joins those before it
pub joined-more : {A E : Type 0} (so_far : List A) (item : A) (left : Result (List A) E)
    → joined so_far (look left (λ rest. Ok (item ∷ rest))) ≡ joined (so_far ++ item ∷ []) left
joined-more so_far item (Ok rest) = rw append_assoc refl
joined-more so_far item (Err why) = refl

-- an item that is good joins those before it
pub joined-good : {A E : Type 0} (so_far : List A) (one : Result A E) (left : Result (List A) E) (item : A) → Ok item ≡ one
    → joined so_far (look one (λ first. look left (λ rest. Ok (first ∷ rest)))) ≡ joined (so_far ++ item ∷ []) left
joined-good so_far one left item e = rw (← e) (joined-more so_far item left)

-- one that is bad decides
pub joined-bad : {A E : Type 0} (so_far : List A) (one : Result A E) (left : Result (List A) E) (why : E) → Err why ≡ one
    → joined so_far (look one (λ first. look left (λ rest. Ok (first ∷ rest)))) ≡ Err why
joined-bad so_far one left why e = rw (← e) refl
