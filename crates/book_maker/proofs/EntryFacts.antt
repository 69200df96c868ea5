-- What follows where all entries give something: as many are found as there are entries, what holds of what each entry
-- gives holds of all that is found, and their own names differ.
--
-- All of it by induction on the entries: where a list gives something, its first entry has a new name and gives
-- something, and the entries behind it give the rest.
use Rattle.std.proofs.Common.{◌≡◌, ◌≢◌, ◌∙◌, ◌<◌, ℕ, ◌+◌, Bool, true, false, not, List, [], ◌∷◌, ◌++◌, map, Option, Some, None, Result, Ok, Err, length, get_or, All, AllPairs, refl, ap, arith, append_assoc, sym}
use Rattle.std.specs.List.{IsDistinct}
use Rattle.std.specs.Str.{bytes_eq}
use Rattle.std.proofs.lemmas.Cmp.{nat_list_eq_equiv}
use Rattle.std.proofs.lemmas.List.{append-nil, get_or-map, length-map}
use Rattle.std.proofs.lemmas.List.Elements.{All-cons, All-head, All-nil, All-tail}
use Rattle.std.proofs.lemmas.Map.Keys.{IsDistinct-push}
use Rattle.std.proofs.lemmas.Map.Made.{AllPairs-from_IsDistinct}
use Rattle.std.proofs.lemmas.Slice.Eq.{bytes_eq-Decides}
use Rattle.tail_text.specs.Checks.{must}
use Rattle.tail_text.specs.declared.codes.TheConstants.{TWICE}
use Rattle.tail_text.specs.declared.refusal.Refusal.{Refusal}
use Rattle.tail_text.specs.declared.refusal.Table.{Table}
use Rattle.table_records.specs.Table.{row_then}
use Rattle.book_maker.specs.NameNumbers.{is_among}
use Rattle.book_maker.specs.LookedUp.{looked_up_from, looked_up_in, is_new, with_own}
use Rattle.book_maker.specs.inside.LookedUp.{names_after}

-- the first entry gave something, and so did those behind it
pub record Gave {B : Type 0} (new : Bool) (one : Result B ℕ) (others : Result (List B) Refusal) (found : List B) : Type 0 where
  pub first : B
  pub rest : List B
  pub is_new : new ≡ true
  pub gave : one ≡ Ok first
  pub left : others ≡ Ok rest
  pub whole : found ≡ first ∷ rest

gave : {B : Type 0} (table : Table) (place : ℕ) (new : Bool) (one : Result B ℕ) (others : Result (List B) Refusal) (found : List B)
    → row_then table place (must new TWICE one) others ≡ Ok found → Gave new one others found
gave table place true (Ok b) (Ok rest) found e = record { first = b; rest = rest; is_new = refl; gave = refl; left = refl; whole = cc e }
gave table place true (Ok b) (Err refusal) found e = cc e
gave table place true (Err code) others found e = cc e
gave table place false one others found e = cc e

module _ {A B : Type 0} (table : Table) (own_name : A → Option (List ℕ)) (uses : A → Result B ℕ) where
  abbrev from : ℕ → List (List ℕ) → List A → Result (List B) Refusal
  from = looked_up_from table own_name uses

  pub taken : (place : ℕ) (before : List (List ℕ)) (entry : A) (more : List A) (found : List B) → from place before (entry ∷ more) ≡ Ok found
      → Gave (is_new before (own_name entry)) (uses entry) (from (place + 1) (with_own before (own_name entry)) more) found
  unfolding looked_up_from
  taken place before entry more found e = gave table place (is_new before (own_name entry)) (uses entry) (from (place + 1) (with_own before (own_name entry)) more) found e

  none : (place : ℕ) (before : List (List ℕ)) (found : List B) → from place before [] ≡ Ok found → found ≡ []
  unfolding looked_up_from
  none place before found e = cc e

  -- as much is found as there are entries
  pub found-many : (place : ℕ) (before : List (List ℕ)) (entries : List A) (found : List B) → from place before entries ≡ Ok found → length found ≡ length entries
  found-many place before [] found e = ap length (none place before found e)
  found-many place before (entry ∷ more) found e =
      let g = taken place before entry more found e in
      omega (arith, ap length g.whole, found-many (place + 1) (with_own before (own_name entry)) more g.rest g.left)

  -- what holds of what each entry gives
  pub found-all : (P : A → Type 0) (Q : B → Type 0) (each : (entry : A) (b : B) → P entry → uses entry ≡ Ok b → Q b)
      (place : ℕ) (before : List (List ℕ)) (entries : List A) (found : List B) → All P entries → from place before entries ≡ Ok found → All Q found
  found-all P Q each place before [] found h e = rw (none place before found e) (All-nil Q)
  found-all P Q each place before (entry ∷ more) found h e =
      let g = taken place before entry more found e in
      rw g.whole (All-cons Q g.first g.rest (each entry g.first (All-head P entry more h) g.gave)
      (found-all P Q each (place + 1) (with_own before (own_name entry)) more g.rest (All-tail P entry more h) g.left))

  -- where what is found has a text of its entry
  pub found-texts : {T : Type 0} (of_entry : A → T) (of_found : B → T) (each : (entry : A) (b : B) → uses entry ≡ Ok b → of_found b ≡ of_entry entry)
      (place : ℕ) (before : List (List ℕ)) (entries : List A) (found : List B) → from place before entries ≡ Ok found → map of_found found ≡ map of_entry entries
  found-texts of_entry of_found each place before [] found e = ap (map of_found) (none place before found e)
  found-texts of_entry of_found each place before (entry ∷ more) found e =
      let g = taken place before entry more found e in
      rw (g.whole, each entry g.first g.gave, found-texts of_entry of_found each (place + 1) (with_own before (own_name entry)) more g.rest g.left) refl

  new_name : (before : List (List ℕ)) (own : Option (List ℕ)) → is_new before own ≡ true → IsDistinct bytes_eq before → IsDistinct bytes_eq (with_own before own)
  new_name before None e h = h
  new_name before (Some x) e h = IsDistinct-push nat_list_eq_equiv before x h (flipped (is_among before x) e)
    where
      flipped : (b : Bool) → not b ≡ true → b ≡ false
      flipped true h = sym h
      flipped false h = refl

  distinct : (place : ℕ) (before : List (List ℕ)) (entries : List A) (found : List B) → from place before entries ≡ Ok found
      → IsDistinct bytes_eq before → IsDistinct bytes_eq (names_after own_name before entries)
  unfolding names_after
  distinct place before [] found e h = h
  distinct place before (entry ∷ more) found e h =
      let g = taken place before entry more found e in
      distinct (place + 1) (with_own before (own_name entry)) more g.rest g.left (new_name before (own_name entry) g.is_new h)

none_distinct : IsDistinct bytes_eq []
unfolding IsDistinct
none_distinct = tt

-- the names of entries that all have one
pub mapped_names : {A : Type 0} (name : A → List ℕ) (before : List (List ℕ)) (entries : List A) → names_after (λ e. Some (name e)) before entries ≡ before ++ map name entries
unfolding names_after
mapped_names name before [] = rw append-nil refl
mapped_names name before (entry ∷ more) = mapped_names name (before ++ name entry ∷ []) more ∙ append_assoc before (name entry ∷ []) (map name more)

-- what holds of each two images holds of each two elements
unmapped : {X Y : Type 0} (R : Y → Y → Type 0) (f : X → Y) (xs : List X) → AllPairs R (map f xs) → AllPairs (λ a b. R (f a) (f b)) xs
unmapped R f xs h i j d less within =
    let at : (k : ℕ) → k < length xs → get_or (map f xs) k (f d) ≡ f (get_or xs k d) = λ k h. get_or-map f xs k d (f d) h in
    rw (← at i (omega arith), ← at j within) (h i j (f d) less (rw length-map within))

-- where each entry has a name and what is found has it, the names differ
pub found-differ : {A B : Type 0} (table : Table) (name : A → List ℕ) (name_found : B → List ℕ) (uses : A → Result B ℕ)
    (each : (entry : A) (b : B) → uses entry ≡ Ok b → name_found b ≡ name entry) (first : ℕ) (entries : List A) (found : List B)
    → looked_up_in table first (λ e. Some (name e)) uses entries ≡ Ok found → AllPairs (λ a b. name_found a ≢ name_found b) found
found-differ table name name_found uses each first entries found e =
    let apart : IsDistinct bytes_eq (map name entries) = rw (mapped_names name [] entries) at (distinct table (λ e. Some (name e)) uses first [] entries found e none_distinct) in
    let same : map name_found found ≡ map name entries = found-texts table (λ e. Some (name e)) uses name name_found each first [] entries found e in
    unmapped (λ x y. x ≢ y) name_found found (rw same (AllPairs-from_IsDistinct bytes_eq-Decides (map name entries) apart))
