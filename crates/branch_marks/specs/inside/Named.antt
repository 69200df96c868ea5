-- What facts name: nothing, one number, or several that differ.
use Rattle.std.specs.Prelude.{ℕ, ◌≡◌, ◌<◌, List, [], ◌∷◌, Bool, true, false, if◌then◌else◌, nat_eq, length, Option, None, Some, slice_index_or}
use Rattle.branch_marks.specs.declared.fact.Fact.{Fact}
use Rattle.branch_marks.specs.declared.named.Named.{Named}
use Rattle.branch_marks.specs.declared.named.Named.TheVariants.{Nothing, One, Several}

-- what is named once a fact has named this, or nothing
abbrev pub with_named : Named → Option ℕ → Named
with_named so_far None = so_far
with_named Nothing (Some v) = One v
with_named (One w) (Some v) = if nat_eq w v then One w else Several
with_named Several (Some v) = Several

-- what the facts name one after the other, where so much is named before them
abbrev pub named_from : (Fact → Option ℕ) → Named → List Fact → Named
named_from names so_far [] = so_far
named_from names so_far (fact ∷ facts) = named_from names (with_named so_far (names fact)) facts

-- what the facts name
abbrev pub named_by : (Fact → Option ℕ) → List Fact → Named
named_by names facts = named_from names Nothing facts

-- nothing else than the number is named
abbrev pub lets_number : Named → ℕ → Bool
lets_number Nothing v = true
lets_number (One w) v = nat_eq w v
lets_number Several v = false

-- nothing is named
abbrev pub is_nothing : Named → Bool
is_nothing Nothing = true
is_nothing (One w) = false
is_nothing Several = false

-- a number that is named for one activity alone
abbrev pub one_at : ℕ → ℕ → ℕ → Option ℕ
one_at a v i = if nat_eq a i then Some v else None

-- for each activity what is named now is what was named, and what the one fact more names
pub record AreNoted (names : ℕ → Option ℕ) (old new : List Named) : Type 0 where
  pub count : length new ≡ length old
  pub each : (i : ℕ) → i < length old → slice_index_or new i Nothing ≡ with_named (slice_index_or old i Nothing) (names i)
