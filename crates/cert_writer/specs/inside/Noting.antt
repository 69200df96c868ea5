-- Who is noted as the flier of each activity, while the routes are gone over. For src/trailer.rt.
use Rattle.std.specs.Prelude.{ℕ, ◌≡◌, ◌<◌, ◌&&◌, if◌then◌else◌, List, length, nat_eq, slice_index_or}
use Rattle.tail_book.specs.Numbers.{contains}

-- who is noted for activity a once the route of aircraft k is gone over: k, where nobody was and the route has the activity
abbrev pub noted : List ℕ → ℕ → ℕ → ℕ → ℕ → ℕ
noted route k nobody a before = if nat_eq before nobody && contains route a then k else before

-- the route of aircraft k is gone over
pub record NotesRoute (route : List ℕ) (k nobody : ℕ) (old new : List ℕ) : Type 0 where
  pub count : length new ≡ length old
  pub each : (a : ℕ) → a < length old → slice_index_or new a 0 ≡ noted route k nobody a (slice_index_or old a 0)
