-- What a map's entries and an array's values say of the members and the items that they stand for: the same, one by
-- one, by induction on the list. So a test over keys, and a look at each value, can be taken along the code's own
-- lists.
use Rattle.std.proofs.Common.{◌≡◌, ◌∙◌, ◌<◌, ℕ, ◌+◌, Bool, ◌&&◌, List, [], ◌∷◌, ◌++◌, map, drop, get_or, length, Result, Ok, Err, string_bytes, refl, ap}
use Rattle.std.proofs.lemmas.List.{append-nil, drop_more}
use Rattle.std.specs.List.{list_all}
use Rattle.std.specs.Map.{keys_of}
use Rattle.toml.proofs.Views.{Entry}
use Rattle.toml.specs.Data.{Data}
use Rattle.toml.specs.View.{items_of, members_view}
use Rattle.tail_text.specs.Checks.{look_each}
use Rattle.tail_text.specs.inside.Joined.{joined, joined-more}
use Rattle.fleet_rules.specs.TomlValues.{data_of, keys_pass}

-- a map's keys are those of its members
pub list_all-keys : (test : List ℕ → Bool) (entries : List Entry)
    → list_all (λ key. test (string_bytes key)) (keys_of entries) ≡ keys_pass test (members_view entries)
list_all-keys test [] = refl
list_all-keys test (entry ∷ more) = ap (λ others. test (string_bytes entry.0) && others) (list_all-keys test more)

-- an array's values are those that its items were made of
pub data_of-items_of : (values : List Data) → data_of (items_of values) ≡ values
data_of-items_of [] = refl
data_of-items_of (value ∷ more) = ap (λ (others : List Data). value ∷ others) (data_of-items_of more)

-- what is left begins with the one at the index
pub map-drop : {A B : Type 0} (f : A → B) (xs : List A) (i : ℕ) (x : A) → (i < length xs) × (x ≡ get_or xs i x)
    → map f (drop i xs) ≡ f x ∷ map f (drop (i + 1) xs)
map-drop f xs i x turn = rw (drop_more xs i x turn.0, ← turn.1) refl

-- the turns of a loop that looks at each, over what all of them give
module _ {A B E : Type 0} (give : A → Result B E) (all : Result (List B) E) (so_far : List B) (left : List A)
    (known : all ≡ joined so_far (look_each give left)) where
  pub turn-end : left ≡ [] → all ≡ Ok so_far
  turn-end e = known ∙ rw (e, append-nil) refl

  pub turn-bad : (a : A) (more : List A) (why : E) → left ≡ a ∷ more → give a ≡ Err why → all ≡ Err why
  turn-bad a more why e bad = known ∙ rw (e, bad) refl

  pub turn-good : (a : A) (more : List A) (b : B) → left ≡ a ∷ more → give a ≡ Ok b → all ≡ joined (so_far ++ b ∷ []) (look_each give more)
  turn-good a more b e good = known ∙ rw (e, good) (joined-more so_far b (look_each give more))
