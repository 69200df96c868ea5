-- Names that are new one after the other differ.
--
-- A name that is new after others is none of them, so by induction no name behind the first is the first. That the ids
-- of a trial's flights are such names is computed from all of them.
use Rattle.std.proofs.Common.{◌≡◌, ◌≢◌, ◌∙◌, ◌<◌, ℕ, zero, suc, Bool, true, false, not, ◌||◌, List, [], ◌∷◌, ◌++◌, length, get_or, AllPairs, arith, refl, sym}
use Rattle.std.specs.List.{list_any}
use Rattle.std.specs.Str.{bytes_eq}
use Rattle.std.proofs.lemmas.List.Folds.{list_any-append}
use Rattle.std.proofs.lemmas.Slice.Eq.{bytes_eq-Decides}
use Rattle.seed_tables.specs.inside.Ids.{all_ids_from, are_new, ids_from}
use Rattle.seed_tables.proofs.LineLemmas.{both-left, both-right}

none-left : (a b : Bool) → (a || b) ≡ false → a ≡ false
none-left false b e = refl
none-left true b e = cc e

none-right : (a b : Bool) → (a || b) ≡ false → b ≡ false
none-right false b e = e
none-right true b e = cc e

not-true : (b : Bool) → not b ≡ true → b ≡ false
not-true false e = refl
not-true true e = cc e

-- the first of new names, and the others behind it
pub first-new : (before : List (List ℕ)) (x : List ℕ) (xs : List (List ℕ)) → are_new before (x ∷ xs) ≡ true → list_any (bytes_eq x) before ≡ false
unfolding are_new
first-new before x xs e = not-true (list_any (bytes_eq x) before) (both-left _ _ e)

pub others-new : (before : List (List ℕ)) (x : List ℕ) (xs : List (List ℕ)) → are_new before (x ∷ xs) ≡ true → are_new (before ++ x ∷ []) xs ≡ true
unfolding are_new
others-new before x xs e = both-right (not (list_any (bytes_eq x) before)) _ e

-- no new name is one of those before
apart-from : (before names : List (List ℕ)) (k : ℕ) (d : List ℕ) → are_new before names ≡ true → k < length names → list_any (bytes_eq (get_or names k d)) before ≡ false
apart-from before [] k d e h = absurd (omega arith)
apart-from before (x ∷ xs) zero d e h = first-new before x xs e
apart-from before (x ∷ xs) (suc k) d e h =
    let behind = apart-from (before ++ x ∷ []) xs k d (others-new before x xs e) (omega arith) in
    none-left (list_any (bytes_eq (get_or xs k d)) before) (list_any (bytes_eq (get_or xs k d)) (x ∷ []))
    (sym (list_any-append (bytes_eq (get_or xs k d)) before (x ∷ [])) ∙ behind)

differs : (x y : List ℕ) → bytes_eq y x ≡ false → x ≢ y
differs x y e same = cc (sym e ∙ (bytes_eq-Decides y x).1 (sym same))

-- new names differ
pub names-differ : (before names : List (List ℕ)) → are_new before names ≡ true → AllPairs (λ a b. a ≢ b) names
names-differ before [] e i j d less within = absurd (omega arith)
names-differ before (x ∷ xs) e zero zero d less within = absurd (omega arith)
names-differ before (x ∷ xs) e zero (suc j) d less within =
    let behind = apart-from (before ++ x ∷ []) xs j d (others-new before x xs e) (omega arith) in
    let one = none-right (list_any (bytes_eq (get_or xs j d)) before) (list_any (bytes_eq (get_or xs j d)) (x ∷ []))
    (sym (list_any-append (bytes_eq (get_or xs j d)) before (x ∷ [])) ∙ behind) in
    differs x (get_or xs j d) (none-left (bytes_eq (get_or xs j d) x) false one)
names-differ before (x ∷ xs) e (suc i) zero d less within = absurd (omega arith)
names-differ before (x ∷ xs) e (suc i) (suc j) d less within =
    names-differ (before ++ x ∷ []) xs (others-new before x xs e) i j d (omega arith) (omega arith)

-- the ids of a trial's flights are new one after the other
pub ids-new : are_new [] (all_ids_from 8 0) ≡ true
unfolding are_new all_ids_from ids_from
ids-new = refl
