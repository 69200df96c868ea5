-- What stands under a name, where a file is written or added.
--
-- The first of the name is at the place that `position` gives, and a write there keeps its name. So what was written is
-- found under that name; under any other, the file that changed was not the one that is found, and is not after it. A
-- file is added only where none has its name, and behind all others, so it is found under its own name and hides no
-- other.
use Rattle.std.proofs.Common.{◌≡◌, ◌≢◌, ◌∙◌, ◌<◌, ◌≤◌, ℕ, Bool, true, false, List, [], ◌∷◌, ◌++◌, Option, Some, None, length, cond, get_or, option_map, position, find, refl, sym, ap, arith}
use Rattle.std.proofs.Math.ListN.{set}
use Rattle.std.proofs.lemmas.Bool.Decides.{nat_tests}
use Rattle.std.proofs.lemmas.List.Folds.{find-set, find_past, find_at, find-append}
use Rattle.std.proofs.lemmas.List.Quantifiers.{position-Some}
use Rattle.std.proofs.lemmas.Option.{cond_some, slice_get_past, slice_get_read}
use Rattle.std.proofs.lemmas.Slice.Eq.{bytes_eq-Decides}
use Rattle.std.specs.List.{position_or_len, slice_get}
use Rattle.std.specs.Option.{option_or}
use Rattle.std.specs.Prelude.{nat_lt}
use Rattle.std.specs.Str.{bytes_eq}
use Rattle.tail_outside.specs.inside.Held.{first_under}

none-cond : (b : Bool) (n : ℕ) → cond b (Some n) None ≡ None → b ≡ false
none-cond true n h = cc
none-cond false n h = refl

within : (m n : ℕ) → nat_lt m n ≡ true → m < n
within m n h = grind (arith, nat_tests)

past : (m n : ℕ) → nat_lt m n ≡ false → n ≤ m
past m n h = grind (arith, nat_tests)

module _ {X : Type 0} (test : X → Bool) (xs : List X) where
  -- where no place is found, nothing passes
  pub find-none : position test xs ≡ None → find test xs ≡ None
  find-none h = find_at test xs ∙ slice_get_past xs (position_or_len test xs) (past _ _ (none-cond _ _ h))

  -- the place that is found is the first one that passes
  pub first_place : (i : ℕ) → position test xs ≡ Some i → (i < length xs) × (i ≡ position_or_len test xs)
  first_place i h =
      let found = cond_some _ _ _ h in
      let here : position_or_len test xs ≡ i = found.1 in
      let inside : position_or_len test xs < length xs = within _ _ found.0 in
      (omega arith, sym here)

  -- what stands there is what is found
  pub find-place : (i : ℕ) (x : X) → position test xs ≡ Some i → x ≡ get_or xs i x → find test xs ≡ Some x
  find-place i x h e =
      let (inside, here) = first_place i h in
      find_at test xs ∙ ap (slice_get xs) (sym here) ∙ slice_get_read xs (length xs) i x refl inside e

same_name : (name : List ℕ) → bytes_eq name name ≡ true
same_name name = (bytes_eq-Decides name name).1 refl

other_name : (b : Bool) (name other : List ℕ) → bytes_eq name other ≡ b → other ≢ name → b ≡ false
other_name true name other e differs = absurd (differs (sym ((bytes_eq-Decides name other).0 e)))
other_name false name other e differs = refl

option_map_none : {X Y : Type 0} (part : X → Y) (o : Option X) → option_map part o ≡ None → o ≡ None
option_map_none part None h = refl
option_map_none part (Some x) h = cc

option_or-none : {X : Type 0} (o : Option X) → option_or o None ≡ o
option_or-none None = refl
option_or-none (Some x) = refl

module _ {X Y : Type 0} (name_of : X → List ℕ) (part : X → Y) (xs : List X) (name : List ℕ) where
  pub first_under-none : position (λ x. bytes_eq (name_of x) name) xs ≡ None → first_under name_of part xs name ≡ None
  first_under-none h = ap (option_map part) (find-none (λ x. bytes_eq (name_of x) name) xs h)

  -- what stands at the place, and what is written there under its name
  module _ (i : ℕ) (old new : X) (found : position (λ x. bytes_eq (name_of x) name) xs ≡ Some i) (here : old ≡ get_or xs i old) where
    pub first_under-place : first_under name_of part xs name ≡ Some (part old)
    first_under-place = ap (option_map part) (find-place (λ x. bytes_eq (name_of x) name) xs i old found here)

    named : bytes_eq (name_of old) name ≡ true
    named = rw (← here) at (position-Some (λ x. bytes_eq (name_of x) name) xs i old found).1

    pub first_under-set : name_of new ≡ name_of old → first_under name_of part (set xs i new) name ≡ Some (part new)
    first_under-set same =
        let (inside, first) = first_place (λ x. bytes_eq (name_of x) name) xs i found in
        ap (option_map part) (find-set (λ x. bytes_eq (name_of x) name) xs i new first inside (rw same named))

    pub others-set : name_of new ≡ name_of old → (other : List ℕ) → other ≢ name → first_under name_of part (set xs i new) other ≡ first_under name_of part xs other
    others-set same other differs =
        let its_name : name_of old ≡ name = (bytes_eq-Decides (name_of old) name).0 named in
        let old_fails : bytes_eq (name_of old) other ≡ false = rw its_name (other_name _ name other refl differs) in
        let new_fails : bytes_eq (name_of new) other ≡ false = rw same old_fails in
        ap (option_map part) (find_past (λ x. bytes_eq (name_of x) other) xs i new old (rw (← here) old_fails) new_fails)

  -- what is added behind the others
  module _ (new : X) (same : name_of new ≡ name) where
    pub first_under-append : first_under name_of part xs name ≡ None → first_under name_of part (xs ++ new ∷ []) name ≡ Some (part new)
    first_under-append h =
        let none_before : find (λ x. bytes_eq (name_of x) name) xs ≡ None = option_map_none part _ h in
        let here : bytes_eq (name_of new) name ≡ true = rw same (same_name name) in
        let added : find (λ x. bytes_eq (name_of x) name) (xs ++ new ∷ []) ≡ Some new = find-append (λ x. bytes_eq (name_of x) name) xs (new ∷ []) ∙ rw (none_before, here) refl in
        ap (option_map part) added

    pub others-append : (other : List ℕ) → other ≢ name → first_under name_of part (xs ++ new ∷ []) other ≡ first_under name_of part xs other
    others-append other differs =
        let fails : bytes_eq (name_of new) other ≡ false = rw same (other_name _ name other refl differs) in
        let found : find (λ x. bytes_eq (name_of x) other) (xs ++ new ∷ []) ≡ find (λ x. bytes_eq (name_of x) other) xs =
        find-append (λ x. bytes_eq (name_of x) other) xs (new ∷ []) ∙ rw fails (option_or-none _) in
        ap (option_map part) found
