-- Links that may be dead since marks were shut: by flags of activities, and by the least Must behind an activity.
use Rattle.std.specs.Prelude.{ℕ, ◌≡◌, ◌<◌, ◌≤◌, ◌||◌, ⊤, All, List, Bool, true, nat_lt, Option, None, Some, length, drop, slice_index_or}
use Rattle.branch_marks.specs.declared.fact.Fact.{Fact}
use Rattle.branch_marks.specs.declared.fact.Fact.TheVariants.{Bar, Must, Cut, Tie}
use Rattle.propagator.specs.inside.Moves.{KeepsFlags}
use Rattle.propagator.specs.inside.Touching.{is_set}

-- the link leaves a flagged activity, comes to one, or passes a Must
abbrev pub is_suspect : List Bool → List Bool → List ℕ → ℕ → ℕ → Bool
is_suspect leave arrive pass a b = is_set leave a || (is_set arrive b || nat_lt (slice_index_or pass a 0) b)

-- what links pass has only become less
abbrev pub LowersPasses : List ℕ → List ℕ → Type 0
LowersPasses old new = (a : ℕ) → slice_index_or new a 0 ≤ slice_index_or old a 0

-- the links that the fact may have taken from somebody are suspect
abbrev pub IsNoted : List Bool → List Bool → List ℕ → Fact → Type 0
IsNoted leave arrive pass (Bar k c) = (is_set leave c ≡ true) × (is_set arrive c ≡ true)
IsNoted leave arrive pass (Must k c) = (is_set leave c ≡ true) × (is_set arrive c ≡ true) × ((a : ℕ) → a < c → slice_index_or pass a 0 ≤ c)
IsNoted leave arrive pass (Cut c d) = ⊤
IsNoted leave arrive pass (Tie c d) = (is_set leave c ≡ true) × (is_set arrive d ≡ true)

-- the facts behind those that were seen are noted; where nothing was seen, all links are suspect
abbrev pub AreNoted : List Fact → Option ℕ → List Bool → List Bool → List Bool → List ℕ → Type 0
AreNoted facts None old leave arrive pass = (a : ℕ) → a < length leave → is_set leave a ≡ true
AreNoted facts (Some n) old leave arrive pass = KeepsFlags old leave × All (IsNoted leave arrive pass) (drop n facts)
