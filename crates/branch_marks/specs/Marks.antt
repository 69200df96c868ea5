-- What marks, a list of facts, leave open to an aircraft: to fly an activity, to go on, to end its route.
use Rattle.std.specs.Prelude.{◌≡◌, ◌≢◌, ℕ, ◌≤◌, ⊤, List, [], ◌∷◌, All}
use Rattle.tail_book.specs.Seen.{BookSeen}
use Rattle.tail_book.specs.declared.place.Place.{Place}
use Rattle.tail_book.specs.declared.place.Place.TheVariants.{Carry, After}
use Rattle.tail_book.specs.Allowed.{IsAllowed}
use Rattle.tail_book.specs.Link.{IsLink}
use Rattle.tail_book.specs.Place.{IsBefore}
use Rattle.branch_marks.specs.declared.fact.Fact.{Fact}
use Rattle.branch_marks.specs.declared.fact.Fact.TheVariants.{Bar, Must, Cut, Tie}

-- the place is behind this activity; the carry-in is behind none
abbrev pub IsAt : Place → ℕ → Type 0
IsAt Carry a = ⊥
IsAt (After x) a = x ≡ a

-- the fact lets aircraft k fly a: it does not bar k from a, and does not give a to another aircraft
abbrev pub LetsFly : ℕ → ℕ → Fact → Type 0
LetsFly k a (Bar j c) = j ≡ k → c ≢ a
LetsFly k a (Must j c) = c ≡ a → j ≡ k
LetsFly k a (Cut c d) = ⊤
LetsFly k a (Tie c d) = ⊤

-- the fact lets aircraft k go from x to b: k need fly nothing that lies strictly between, b is not cut from x, and a tie
-- that begins at x or ends at b has both ends there
abbrev pub LetsGo : ℕ → Place → ℕ → Fact → Type 0
LetsGo k x b (Bar j c) = ⊤
LetsGo k x b (Must j c) = j ≡ k → IsBefore x c → b ≤ c
LetsGo k x b (Cut c d) = IsAt x c → d ≢ b
LetsGo k x b (Tie c d) = (IsAt x c → d ≡ b) × (d ≡ b → IsAt x c)

-- the fact lets aircraft k end its route at x: k need fly nothing after x, and no tie begins at x
abbrev pub LetsEnd : ℕ → Place → Fact → Type 0
LetsEnd k x (Bar j c) = ⊤
LetsEnd k x (Must j c) = j ≡ k → ¬ IsBefore x c
LetsEnd k x (Cut c d) = ⊤
LetsEnd k x (Tie c d) = ¬ IsAt x c

-- activity a is alive for aircraft k: k may fly it, by the rules and by each fact
pub record IsAlive (book : BookSeen) (marks : List Fact) (k a : ℕ) : Type 0 where
  pub allowed : IsAllowed book k a
  pub facts : All (LetsFly k a) marks

-- what the aircraft comes from is alive for it; the carry-in always is
abbrev pub IsAliveAt : BookSeen → List Fact → ℕ → Place → Type 0
IsAliveAt book marks k Carry = ⊤
IsAliveAt book marks k (After x) = IsAlive book marks k x

-- the link from x to b is usable for aircraft k: it is a link, both ends are alive, and each fact lets k go from x to b
pub record IsUsable (book : BookSeen) (marks : List Fact) (k : ℕ) (x : Place) (b : ℕ) : Type 0 where
  pub link : IsLink book k x b
  pub before : IsAliveAt book marks k x
  pub after : IsAlive book marks k b
  pub facts : All (LetsGo k x b) marks

-- aircraft k may end its route at x
abbrev pub MayEnd : List Fact → ℕ → Place → Type 0
MayEnd marks k x = All (LetsEnd k x) marks

-- the rest of a route of aircraft k fits from a place on: each of its links is usable, and k may end at its end
abbrev pub FitsFrom : BookSeen → List Fact → ℕ → Place → List ℕ → Type 0
FitsFrom book marks k x [] = MayEnd marks k x
FitsFrom book marks k x (b ∷ rest) = IsUsable book marks k x b × FitsFrom book marks k (After b) rest

-- the route of aircraft k fits the marks
abbrev pub Fits : BookSeen → List Fact → ℕ → List ℕ → Type 0
Fits book marks k route = FitsFrom book marks k Carry route
