-- The fields of a record by their numbers, and record and texts compared from a field on.
--
-- Where they differ at that field, the record is another one; where they agree, the fields behind it decide. So a loop
-- over the numbers of the fields, which stops at the first that differs, compares the whole.
use Rattle.std.proofs.Common.{◌≡◌, ◌∙◌, ◌<◌, ◌+◌, ℕ, zero, suc, Bool, true, false, not, List, [], ◌∷◌, length, map, drop, get_or, refl, ◌&&◌}
use Rattle.std.specs.Borrow.{Bor}
use Rattle.std.specs.Option.{unwrap_or}
use Rattle.std.specs.Str.{bytes_eq}
use Rattle.std.proofs.lemmas.List.{drop_more, get_or-map, length-map}
use Rattle.csv.specs.Records as csv
use Rattle.table_records.specs.Fields.{are_same, field_at}

-- the field that csv finds at a place, or an empty one
pub field_at-found : (fields : List (List ℕ)) (place : ℕ) → unwrap_or (csv.field_at fields place) [] ≡ field_at fields place
unfolding csv.field_at
field_at-found [] place = refl
field_at-found (f ∷ fs) zero = refl
field_at-found (f ∷ fs) (suc place) = field_at-found fs place

differ : (same rest : Bool) → true ≡ not same → (same && rest) ≡ false
differ true rest e = cc e
differ false rest e = refl

agree : (same rest : Bool) → false ≡ not same → (same && rest) ≡ rest
agree true rest e = refl
agree false rest e = cc e

-- a record and as many texts, at a field that the record has
module _ (fields : List (List ℕ)) (texts : List (Bor (List ℕ))) (i : ℕ) (within : i < length fields) (many : length fields ≡ length texts)
    (field text : List ℕ) (none : Bor (List ℕ)) (is_field : field ≡ field_at fields i) (is_text : text ≡ (get_or texts i none).now) where
  step : are_same (drop i fields) (drop i (map (λ t. t.now) texts))
      ≡ (bytes_eq field text && are_same (drop (i + 1) fields) (drop (i + 1) (map (λ t. t.now) texts)))
  step =
      let in_texts : i < length texts = rw (← many) within in
      let in_map : i < length (map (λ (t : Bor (List ℕ)). t.now) texts) = rw (length-map texts (λ (t : Bor (List ℕ)). t.now)) in_texts in
      rw (drop_more fields i [] within, drop_more (map (λ (t : Bor (List ℕ)). t.now) texts) i [] in_map, get_or-map (λ (t : Bor (List ℕ)). t.now) texts i none [] in_texts, is_field, is_text) refl

  -- where they differ there, the record is another one
  pub are_same-differ : true ≡ not (bytes_eq field text) → are_same (drop i fields) (drop i (map (λ t. t.now) texts)) ≡ false
  are_same-differ e = step ∙ differ (bytes_eq field text) _ e

  -- where they agree, the fields behind decide
  pub are_same-agree : false ≡ not (bytes_eq field text)
      → are_same (drop i fields) (drop i (map (λ t. t.now) texts)) ≡ are_same (drop (i + 1) fields) (drop (i + 1) (map (λ t. t.now) texts))
  are_same-agree e = step ∙ agree (bytes_eq field text) _ e
