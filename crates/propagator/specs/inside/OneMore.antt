-- What a fact that follows changes once it is among the marks. For src/laws.rt.
use Rattle.std.specs.Prelude.{ℕ, ◌≡◌, ◌≢◌, ◌<◌, ◌++◌, List, [], ◌∷◌, false, None, if◌then◌else◌, nat_eq}
use Rattle.tail_book.specs.Seen.{BookSeen}
use Rattle.tail_book.specs.Lookup.{activities}
use Rattle.tail_book.specs.Numbers.{contains}
use Rattle.connection_net.specs.Net.{net_of, predecessors_in}
use Rattle.tail_book.specs.inside.Sound.{IsBook}
use Rattle.branch_marks.specs.declared.fact.Fact.{Fact}
use Rattle.branch_marks.specs.declared.fact.Fact.TheVariants.{Bar, Cut}
use Rattle.branch_marks.specs.Following.{IsDead, IsDeadConnection, Follows}
use Rattle.floor_rows.specs.inside.LeastOver.{floor_of}

-- a Bar that follows takes the floor at its activity, and leaves its aircraft all others
abbrev pub BarsTakeOneFloor : Type 0
BarsTakeOneFloor = (book : BookSeen) (marks : List Fact) (k c : ℕ) → IsDead book marks k c
    → (a : ℕ) → a < activities book → floor_of book (marks ++ Bar k c ∷ []) k a ≡ (if nat_eq a c then None else floor_of book marks k a)

-- what is dead after it and comes later was dead before it
abbrev pub BarsKillNothingLater : Type 0
BarsKillNothingLater = (book : BookSeen) → IsBook book → (marks : List Fact) (k c : ℕ) → IsDead book marks k c
    → (a : ℕ) → c < a → IsDead book (marks ++ Bar k c ∷ []) k a → IsDead book marks k a

-- and so was what is dead after it and no predecessor of its activity, nor this itself
abbrev pub BarsKillPredecessors : Type 0
BarsKillPredecessors = (book : BookSeen) (marks : List Fact) (k c : ℕ) → IsDead book marks k c
    → (a : ℕ) → a ≢ c → contains (predecessors_in (net_of book) c) a ≡ false → IsDead book (marks ++ Bar k c ∷ []) k a → IsDead book marks k a

-- a Cut that follows leaves all floors
abbrev pub CutsTakeNoFloor : Type 0
CutsTakeNoFloor = (book : BookSeen) (marks : List Fact) (c d : ℕ) → IsDeadConnection book marks c d
    → (k a : ℕ) → a < activities book → floor_of book (marks ++ Cut c d ∷ []) k a ≡ floor_of book marks k a

-- and what follows after it followed before it
abbrev pub CutsMakeNothingFollow : Type 0
CutsMakeNothingFollow = (book : BookSeen) (marks : List Fact) (c d : ℕ) → IsDeadConnection book marks c d
    → (fact : Fact) → Follows book (marks ++ Cut c d ∷ []) fact → Follows book marks fact
