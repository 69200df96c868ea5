-- A fact closes ways only to activities from the last one on that it names. Below that number each activity is as alive and each
-- link as usable with the fact as without it, so what comes there brings the same if the floors before it are the same: they
-- are, by induction over their numbers.
use Rattle.std.specs.Prelude.{◌&&◌, ◌||◌, not, nat_eq, nat_le, if◌then◌else◌, ◌≢◌}
use Rattle.std.proofs.Common.{◌≡◌, ◌∙◌, ℕ, zero, suc, ℤ, ◌<◌, ◌≤◌, Bool, true, ◌+◌, inl, inr, arith, List, [], ◌∷◌, ◌++◌, get_or, length, refl, sym, ap, subst, Option, None, Some}
use Rattle.std.specs.List.{list_all}
use Rattle.std.proofs.Math.ListN.{set}
use Rattle.std.proofs.lemmas.Bool.{and_right, cases_order, le-leb, ne_eqb, or_right}
use Rattle.std.proofs.lemmas.Bool.Decides.{eqb_tells}
use Rattle.std.proofs.lemmas.Grind.{get_or-set_at}
use Rattle.std.proofs.Math.Seq.{get_or-append_seam}
use Rattle.std.proofs.lemmas.List.{get_or_append_left, get_or_default, get_or-set_other, length-set, length_push}
use Rattle.tail_book.specs.Seen.{BookSeen}
use Rattle.tail_book.specs.Counters.{step}
use Rattle.tail_book.specs.LegalTests.{is_allowed, is_link, within_limits}
use Rattle.tail_book.specs.Lookup.{activities, carry_of}
use Rattle.tail_book.specs.declared.place.Place.{Place}
use Rattle.tail_book.specs.declared.place.Place.TheVariants.{Carry, After}
use Rattle.branch_marks.proofs.FactTables.{all_more}
use Rattle.branch_marks.specs.Floors.{stepped_floor}
use Rattle.branch_marks.specs.MarkTests.{is_alive, is_alive_at, is_at, is_before, is_usable, lets_fly, lets_go}
use Rattle.branch_marks.specs.declared.fact.Fact.{Fact}
use Rattle.branch_marks.specs.declared.fact.Fact.TheVariants.{Bar, Must, Cut, Tie}
use Rattle.floor_rows.specs.inside.FloorRow.{FloorRowSeen, floor_in, IsRowOf}
use Rattle.floor_rows.specs.inside.LeastOver.{BroughtTells, FloorsAreLeast, floor_of}
use Rattle.cert_checker.specs.declared.kept_floors.KeptFloors.{KeptFloors}
use Rattle.cert_checker.specs.inside.KeptFloors.{AreAllUnder, AreFloorsUnder, FloorsBelowStay, LeavesBelow, floors_at, no_floors}

-- the fact lets the aircraft fly what lies below, and go there
flies_below : (k n : ℕ) (fact : Fact) → LeavesBelow k n fact → (a : ℕ) → a < n → lets_fly k a fact ≡ true
flies_below k n (Bar j c) leaves a lt = elim (eqb_tells j k) [
  | inl here ↦ (let low : n ≤ c = leaves here.1 in
      let apart : c ≢ a = omega (arith, low, lt) in
      ap not (and_right (nat_eq j k) (nat_eq c a) (ne_eqb c a apart)))
  | inr other ↦ ap (λ (t : Bool). not (t && nat_eq c a)) other.0
]
flies_below k n (Must j c) leaves a lt =
    let low : n ≤ c = leaves in
    let apart : c ≢ a = omega (arith, low, lt) in
    ap (λ (t : Bool). not t || nat_eq j k) (ne_eqb c a apart)
flies_below k n (Cut c d) leaves a lt = refl
flies_below k n (Tie c d) leaves a lt = refl

goes_below : (k n : ℕ) (fact : Fact) → LeavesBelow k n fact → (x : Place) (b : ℕ) → b < n → lets_go k x b fact ≡ true
goes_below k n (Bar j c) leaves x b lt = refl
goes_below k n (Must j c) leaves x b lt =
    let low : n ≤ c = leaves in
    or_right (not (nat_eq j k && is_before x c)) (nat_le b c) (le-leb b c (omega (arith, low, lt)))
goes_below k n (Cut c d) leaves x b lt =
    let low : n ≤ d = leaves in
    let apart : d ≢ b = omega (arith, low, lt) in
    ap not (and_right (is_at x c) (nat_eq d b) (ne_eqb d b apart))
goes_below k n (Tie c d) leaves x b lt = let none : n ≡ 0 = leaves in absurd (omega (arith, none, lt))

-- a test that the last one passes is that of those before it
all_same : {X : Type 0} (p : X → Bool) (xs : List X) (x : X) → p x ≡ true → list_all p (xs ++ x ∷ []) ≡ list_all p xs
all_same p xs x e = all_more p xs x ∙ ap (λ (t : Bool). list_all p xs && t) e ∙ and_yes (list_all p xs)
  where
    and_yes : (t : Bool) → (t && true) ≡ t
    and_yes t = grind arith

module _ (book : BookSeen) (marks : List Fact) (fact : Fact) (k n : ℕ) (leaves : LeavesBelow k n fact) where
  abbrev more : List Fact
  more = marks ++ fact ∷ []

  alive_same : (a : ℕ) → a < n → is_alive book (marks ++ fact ∷ []) k a ≡ is_alive book marks k a
  unfolding is_alive
  alive_same a lt = ap (λ (t : Bool). is_allowed book k a && t) (all_same (lets_fly k a) marks fact (flies_below k n fact leaves a lt))

  usable_same : (x : Place) (b : ℕ) → is_alive_at book (marks ++ fact ∷ []) k x ≡ is_alive_at book marks k x → b < n
      → is_usable book (marks ++ fact ∷ []) k x b ≡ is_usable book marks k x b
  unfolding is_usable
  usable_same x b before lt =
      ap (λ (t : Bool). is_link book k x b && (t && (is_alive book (marks ++ fact ∷ []) k b && list_all (lets_go k x b) (marks ++ fact ∷ [])))) before
      ∙ ap (λ (t : Bool). is_link book k x b && (is_alive_at book marks k x && (t && list_all (lets_go k x b) (marks ++ fact ∷ [])))) (alive_same b lt)
      ∙ ap (λ (t : Bool). is_link book k x b && (is_alive_at book marks k x && (is_alive book marks k b && t)))
      (all_same (lets_go k x b) marks fact (goes_below k n fact leaves x b lt))

  brings_same : (x : Place) (b : ℕ) (floor : Option (List ℤ)) → is_usable book (marks ++ fact ∷ []) k x b ≡ is_usable book marks k x b
      → stepped_floor book (marks ++ fact ∷ []) k x b floor ≡ stepped_floor book marks k x b floor
  brings_same x b None e = refl
  brings_same x b (Some values) e =
      ap (λ (t : Bool). if t && within_limits book.rules.counters (step book k x b values) then Some (step book k x b values) else None) e

  module _ (least : FloorsAreLeast) (tells : BroughtTells) where
    floors_same : (m a : ℕ) → a < m → a < n → a < activities book → floor_of book (marks ++ fact ∷ []) k a ≡ floor_of book marks k a
    floors_same zero a lt below within = absurd (omega (arith, lt))
    floors_same (suc m) a lt below within =
        least book (marks ++ fact ∷ []) k a within
        ∙ tells.same book marks (marks ++ fact ∷ []) k a (floor_of book marks k) (floor_of book (marks ++ fact ∷ []) k)
        (brings_same Carry a (Some (carry_of book k)) (usable_same Carry a refl below))
        (λ x less. ap (λ (floor : Option (List ℤ)). stepped_floor book (marks ++ fact ∷ []) k (After x) a floor)
        (floors_same m x (omega (arith, lt, less)) (omega (arith, below, less)) (omega (arith, within, less)))
        ∙ brings_same (After x) a (floor_of book marks k x) (usable_same (After x) a (alive_same x (omega (arith, below, less))) below))
        ∙ sym (least book marks k a within)

pub below_stay : FloorsAreLeast → BroughtTells → FloorsBelowStay
below_stay least tells book marks fact k n leaves a lt within = floors_same book marks fact k n leaves least tells n a lt lt within

-- what is left is kept
pub still_kept : FloorsBelowStay → (book : BookSeen) (marks : List Fact) (fact : Fact) (floors : KeptFloors) (n : ℕ) → n ≤ floors.right
    → LeavesBelow floors.k n fact → AreFloorsUnder book marks floors → AreFloorsUnder book (marks ++ fact ∷ []) (record floors { right = n })
still_kept stay book marks fact floors n less leaves is = let few = is.within in record {
  row = is.row;
  within = omega (arith, less, few);
  right = λ a lt. is.right a (omega (arith, lt, less)) ∙ sym (stay book marks fact floors.k n leaves a lt (omega (arith, lt, less, few)));
}

-- none is kept
pub none_kept : (book : BookSeen) (old new : List Fact) (floors : KeptFloors) (k : ℕ) → AreFloorsUnder book old floors
    → AreFloorsUnder book new (record floors { k = k; right = 0 })
none_kept book old new floors k is = record {
  row = is.row;
  within = omega arith;
  right = λ a lt. absurd (omega (arith, lt));
}

-- those of the aircraft that are kept are its floors
pub floors_kept : (book : BookSeen) (marks : List Fact) (floors : KeptFloors) (k n : ℕ) → AreFloorsUnder book marks floors → floors.k ≡ k → n ≤ floors.right
    → (a : ℕ) → a < n → floor_in floors.row a ≡ floor_of book marks k a
floors_kept book marks floors k n is same le a lt = is.right a (omega (arith, lt, le)) ∙ ap (λ (j : ℕ). floor_of book marks j a) same

-- and those of the aircraft that are made are kept
pub made_kept : (book : BookSeen) (marks : List Fact) (floors : KeptFloors) (row : FloorRowSeen) (k n : ℕ) → floors.k ≡ k → n ≤ activities book → IsRowOf book row
    → ((a : ℕ) → a < n → floor_in row a ≡ floor_of book marks k a) → AreFloorsUnder book marks (record floors { row = row; right = n })
made_kept book marks floors row k n same few is made = record {
  row = is;
  within = few;
  right = λ a lt. made a lt ∙ ap (λ (j : ℕ). floor_of book marks j a) (sym same);
}

-- the first n of the rows are turned into others, and those behind them are as they were
pub record AreTurned (turns : KeptFloors → KeptFloors → Type 0) (n : ℕ) (old new : List KeptFloors) : Type 0 where
  pub count : length new ≡ length old
  pub done : (i : ℕ) → i < n → i < length old → turns (floors_at old i) (floors_at new i)
  pub left : (i : ℕ) → n ≤ i → floors_at new i ≡ floors_at old i

pub none_turned : (turns : KeptFloors → KeptFloors → Type 0) (rows : List KeptFloors) → AreTurned turns 0 rows rows
none_turned turns rows = record { count = refl; done = λ i lt within. absurd (omega (arith, lt)); left = λ i le. refl }

pub one_turned : (turns : KeptFloors → KeptFloors → Type 0) (n : ℕ) (old new : List KeptFloors) (floors d : KeptFloors) → n < length old → AreTurned turns n old new
    → d ≡ get_or new n d → turns d floors → AreTurned turns (n + 1) old (set new n floors)
one_turned turns n old new floors d lt before is turn = let count = before.count in record {
  count = length-set new n floors ∙ count;
  done = λ i less within. elim (cases_order i n) [
    | inl here ↦ subst (λ (j : ℕ). turns (floors_at old j) (floors_at (set new n floors) j)) (sym here)
        (subst (λ (f : KeptFloors). turns (floors_at old n) f) (sym (get_or-set_at new n n floors no_floors refl (omega (arith, lt, count))))
        (subst (λ (f : KeptFloors). turns f floors) (is ∙ get_or_default new n d no_floors (omega (arith, lt, count)) ∙ before.left n (omega arith)) turn))
    | inr o ↦ elim o [
      | inl below ↦ (let apart : i ≢ n = omega (arith, below) in
          subst (λ (f : KeptFloors). turns (floors_at old i) f) (sym (get_or-set_other new n i floors no_floors apart)) (before.done i below within))
      | inr over ↦ absurd (omega (arith, less, over))
    ]
  ];
  left = λ i le. let apart : i ≢ n = omega (arith, le) in get_or-set_other new n i floors no_floors apart ∙ before.left i (omega (arith, le));
}

-- what a row gives up with all others
abbrev pub Clears : KeptFloors → KeptFloors → Type 0
Clears old new = (book : BookSeen) (before after : List Fact) → AreFloorsUnder book before old → AreFloorsUnder book after new

abbrev pub GivesUp : Fact → KeptFloors → KeptFloors → Type 0
GivesUp fact old new = (book : BookSeen) (marks : List Fact) → AreFloorsUnder book marks old → AreFloorsUnder book (marks ++ fact ∷ []) new

pub all_cleared : (n : ℕ) (old new : List KeptFloors) → length old ≤ n → AreTurned Clears n old new → (book : BookSeen) (before after : List Fact)
    → AreAllUnder book before old → AreAllUnder book after new
all_cleared n old new le turned book before after all = let count = turned.count in let some = all.some in record {
  some = omega (arith, count, some);
  each = λ i lt. turned.done i (omega (arith, lt, count, le)) (omega (arith, lt, count)) book before after (all.each i (omega (arith, lt, count)));
}

pub all_given_up : (fact : Fact) (n : ℕ) (old new : List KeptFloors) → length old ≤ n → AreTurned (GivesUp fact) n old new → (book : BookSeen) (marks : List Fact)
    → AreAllUnder book marks old → AreAllUnder book (marks ++ fact ∷ []) new
all_given_up fact n old new le turned book marks all = let count = turned.count in let some = all.some in record {
  some = omega (arith, count, some);
  each = λ i lt. turned.done i (omega (arith, lt, count, le)) (omega (arith, lt, count)) book marks (all.each i (omega (arith, lt, count)));
}

-- with one row more, each is of the book
abbrev pub AreNew : BookSeen → ℕ → List KeptFloors → Type 0
AreNew book n rows = (length rows ≡ n) × ((marks : List Fact) (i : ℕ) → i < length rows → AreFloorsUnder book marks (floors_at rows i))

pub one_new : (book : BookSeen) (n : ℕ) (rows new : List KeptFloors) (floors : KeptFloors) → new ≡ rows ++ floors ∷ [] → AreNew book n rows
    → ((marks : List Fact) → AreFloorsUnder book marks floors) → AreNew book (n + 1) new
one_new book n rows new floors is (count, each) under = subst (AreNew book (n + 1)) (sym is) (let long = length_push rows floors in (
  omega (arith, long, count),
  λ marks i lt. elim (cases_order i (length rows)) [
    | inl here ↦ subst (λ (j : ℕ). AreFloorsUnder book marks (floors_at (rows ++ floors ∷ []) j)) (sym here)
        (subst (λ (f : KeptFloors). AreFloorsUnder book marks f) (sym (get_or-append_seam rows floors [] no_floors)) (under marks))
    | inr o ↦ elim o [
      | inl less ↦ subst (λ (f : KeptFloors). AreFloorsUnder book marks f) (sym (get_or_append_left rows (floors ∷ []) no_floors i less)) (each marks i less)
      | inr over ↦ absurd (omega (arith, lt, over, long))
    ]
  ],
))
