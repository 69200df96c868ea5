-- An index of names that differ: each name is new when it comes, so the index is the list itself. By induction on a
-- front of the list: the next name differs from all in the front, so it is among none of the index's names and goes to
-- its end.
use Rattle.std.proofs.Common.{◌≡◌, ◌≢◌, ◌∙◌, sym, refl, ap, ap₂, arith, ℕ, ◌+◌, ◌<◌, Bool, true, false, ◌||◌, List, [], ◌∷◌, ◌++◌, map, length, get_or, take, All, AllPairs}
use Rattle.std.specs.List.{list_any}
use Rattle.std.specs.Str.{bytes_eq}
use Rattle.std.specs.Bool.{Decides}
use Rattle.std.proofs.lemmas.List.{take_more, get_or-take, length-take-le, map-append}
use Rattle.std.proofs.lemmas.List.Elements.{All-head, All-tail, All-from_get_or}
use Rattle.std.proofs.lemmas.Slice.Eq.{bytes_eq-Decides}
use Rattle.indexmap.specs.IndexSet.{insert_key}

pub false_of : (b : Bool) {P : Type 0} → Decides b P → ¬ P → b ≡ false
false_of true d never = absurd (never (d.0 refl))
false_of false d never = refl

or_false : (a b : Bool) → a ≡ false → b ≡ false → (a || b) ≡ false
or_false true b h k = h
or_false false b h k = k

not_among : {A : Type 0} (f : A → List ℕ) (name : List ℕ) (xs : List A) → All (λ y. f y ≢ name) xs → list_any (bytes_eq name) (map f xs) ≡ false
not_among f name [] h = refl
not_among {A} f name (x ∷ xs) h =
    or_false (bytes_eq name (f x)) (list_any (bytes_eq name) (map f xs))
    (false_of (bytes_eq name (f x)) (bytes_eq-Decides name (f x)) (λ same. All-head (λ y. f y ≢ name) x xs h (sym same)))
    (not_among f name xs (All-tail (λ y. f y ≢ name) x xs h))

pub key-new : {A : Type 0} (f : A → List ℕ) (xs : List A) (i : ℕ) (x : A) (name : List ℕ) (keys now : List (List ℕ)) → i < length xs → x ≡ get_or xs i x
    → AllPairs (λ a b. f a ≢ f b) xs → name ≡ f x → keys ≡ map f (take i xs) → now ≡ insert_key bytes_eq keys name → now ≡ map f (take (i + 1) xs)
key-new {A} f xs i x name keys now within here differ named so_far e =
    let before : All (λ y. f y ≢ f x) (take i xs) =
    All-from_get_or (λ y. f y ≢ f x) (take i xs) x (λ k lt same.
    let below : k < i = omega (arith, length-take-le i xs (omega arith), lt) in
    differ k i x below within (ap f (sym (get_or-take i xs k x below)) ∙ same ∙ ap f here)) in
    let new = not_among f (f x) (take i xs) before in
    let last : take (i + 1) xs ≡ take i xs ++ x ∷ [] = take_more xs i x within ∙ ap (λ y. take i xs ++ y ∷ []) (sym here) in
    let added : insert_key bytes_eq (map f (take i xs)) (f x) ≡ map f (take i xs) ++ f x ∷ [] = rw new refl in
    e ∙ ap₂ (insert_key bytes_eq) so_far named ∙ added ∙ sym (ap (map f) last ∙ map-append f (take i xs) (x ∷ []))
