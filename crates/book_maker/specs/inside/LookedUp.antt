-- The names that entries have added when they are through.
use Rattle.std.specs.Prelude.{ℕ, List, [], ◌∷◌, Option}
use Rattle.book_maker.specs.LookedUp.{with_own}

-- the names, and then the own names of entries
unfoldable pub names_after : {A : Type 0} → (A → Option (List ℕ)) → List (List ℕ) → List A → List (List ℕ)
names_after own_name names [] = names
names_after own_name names (entry ∷ more) = names_after own_name (with_own names (own_name entry)) more
