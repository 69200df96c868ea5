-- Who may come next where Ties tell. Each fact that lets the aircraft go from x to b ties nothing else behind x; so by
-- induction over the facts b is what is named behind x, if anything is. Where one activity is named, nothing else is
-- usable, and the rest of the row may be left out; where several are that differ, nothing is. The row rises, so a
-- search by halves finds the one that is named, or shows that it is not there.
use Rattle.std.proofs.Common.{◌≡◌, ℕ, zero, suc, ◌<◌, ◌≤◌, inl, inr, ◌∙◌, Bool, true, false, cond, arith, refl, List, [], ◌∷◌, length, take, drop, ◌+◌, ◌-◌, subst, sym, ap, get_or}
use Rattle.std.specs.Prelude.{All, Option, None, Some, Ok, Err, nat_eq}
use Rattle.std.specs.List.Sorted.{IsNonDecreasing, IsBinarySearchResult}
use Rattle.std.specs.Ordering.{nat_cmp}
use Rattle.std.proofs.lemmas.Bool.{cases_lt, eqb-true, eq-eqb, false_from_ne_true, false≢true}
use Rattle.std.proofs.lemmas.List.Elements.{All-head, All-tail}
use Rattle.std.proofs.lemmas.List.{drop_more}
use Rattle.std.proofs.lemmas.List.Sorted.{searched}
use Rattle.tail_book.specs.Seen.{BookSeen}
use Rattle.tail_book.specs.declared.place.Place.{Place}
use Rattle.tail_book.specs.declared.place.Place.TheVariants.{After}
use Rattle.tail_book.specs.Lookup.{activities}
use Rattle.tail_book.specs.Numbers.{contains, is_none_or}
use Rattle.tail_book.specs.inside.Rising.{IsRisingFrom}
use Rattle.connection_net.specs.inside.Laws.{RowsAreTheirPlaces}
use Rattle.branch_marks.specs.declared.fact.Fact.{Fact}
use Rattle.branch_marks.specs.declared.fact.Fact.TheVariants.{Bar, Must, Cut, Tie}
use Rattle.branch_marks.specs.declared.named.Named.{Named}
use Rattle.branch_marks.specs.declared.named.Named.TheVariants.{Nothing, One, Several}
use Rattle.branch_marks.specs.Marks.{IsUsable, LetsGo}
use Rattle.branch_marks.specs.inside.Named.{named_by, named_from, with_named, lets_number}
use Rattle.branch_marks.specs.inside.MarkTables.{tied_after}
use Rattle.route_search.specs.inside.Followers.{AreFollowers, only}

-- a fact that lets k go from x to b ties nothing else behind x
tied_there : (same : Bool) (d b : ℕ) → (same ≡ true → d ≡ b) → is_none_or (cond same (Some d) None) b ≡ true
tied_there true d b is = eq-eqb d b (is refl)
tied_there false d b is = refl

ties_no_other : (k x b : ℕ) (fact : Fact) → LetsGo k (After x) b fact → is_none_or (tied_after x fact) b ≡ true
ties_no_other k x b (Bar j c) lets = refl
ties_no_other k x b (Must j c) lets = refl
ties_no_other k x b (Cut c d) lets = refl
ties_no_other k x b (Tie c d) lets = tied_there (nat_eq c x) d b (λ same. lets.0 (sym (eqb-true c x same)))

-- so b is let through by what all facts name
still_known : (same : Bool) (w b : ℕ) → nat_eq w b ≡ same → same ≡ true → lets_number (cond same (One w) Several) b ≡ true
still_known true w b is holds = is
still_known false w b is holds = holds

one_more : (named : Named) (one : Option ℕ) (b : ℕ) → lets_number named b ≡ true → is_none_or one b ≡ true → lets_number (with_named named one) b ≡ true
one_more named None b known here = known
one_more Nothing (Some v) b known here = here
one_more (One w) (Some v) b known here =
    subst (λ (u : ℕ). lets_number (cond (nat_eq w u) (One w) Several) b ≡ true) (sym (eqb-true v b here)) (still_known (nat_eq w b) w b refl known)
one_more Several (Some v) b known here = known

lets_through : (k x b : ℕ) (named : Named) (marks : List Fact) → lets_number named b ≡ true → All (LetsGo k (After x) b) marks
    → lets_number (named_from (tied_after x) named marks) b ≡ true
lets_through k x b named [] known lets = known
lets_through k x b named (fact ∷ marks) known lets =
    lets_through k x b (with_named named (tied_after x fact)) marks
    (one_more named (tied_after x fact) b known (ties_no_other k x b fact (All-head (LetsGo k (After x) b) fact marks lets)))
    (All-tail (LetsGo k (After x) b) fact marks lets)

-- and so b is what alone is named, and where several are, b is not usable
pub named_alone : (book : BookSeen) (marks : List Fact) (k x n : ℕ) → One n ≡ named_by (tied_after x) marks
    → (b : ℕ) → IsUsable book marks k (After x) b → n ≡ b
named_alone book marks k x n is b usable =
    eqb-true n b (subst (λ (named : Named). lets_number named b ≡ true) (sym is) (lets_through k x b Nothing marks refl usable.facts))

pub none_of_several : (book : BookSeen) (marks : List Fact) (k x : ℕ) → Several ≡ named_by (tied_after x) marks
    → (b : ℕ) → IsUsable book marks k (After x) b → ⊥
none_of_several book marks k x is b usable =
    let known : false ≡ true = subst (λ (named : Named). lets_number named b ≡ true) (sym is) (lets_through k x b Nothing marks refl usable.facts) in
    false≢true known

-- numbers that rise do not fall
at_least : (n x : ℕ) (row : List ℕ) → IsRisingFrom n (After x) row → (j d : ℕ) → j < length row → x ≤ get_or row j d
at_least n x [] rises j d lt = absurd (omega (arith, lt))
at_least n x (b ∷ row) rises zero d lt = omega (arith, rises.0)
at_least n x (b ∷ row) rises (suc j) d lt =
    let later = at_least n b row rises.2 j d (omega (arith, lt)) in omega (arith, rises.0, later)

pub does_not_fall : (n : ℕ) (x : Place) (row : List ℕ) → IsRisingFrom n x row → IsNonDecreasing row
does_not_fall n x [] rises i j d le lt = absurd (omega (arith, lt))
does_not_fall n x (b ∷ row) rises zero zero d le lt = omega arith
does_not_fall n x (b ∷ row) rises zero (suc j) d le lt = at_least n b row rises.2 j d (omega (arith, lt))
does_not_fall n x (b ∷ row) rises (suc i) zero d le lt = absurd (omega (arith, le))
does_not_fall n x (b ∷ row) rises (suc i) (suc j) d le lt =
    does_not_fall n (After b) row rises.2 i j d (omega (arith, le)) (omega (arith, lt))

-- what a search of a row that does not fall has missed is not in the row
missed : (row : List ℕ) (b i : ℕ) → ((q : ℕ) → q < i → get_or row q 0 < b) → ((q : ℕ) → i ≤ q → q < length row → b < get_or row q 0)
    → (q : ℕ) → q < length row → get_or row q 0 ≡ b → ⊥
missed row b i before behind q lt is = elim (cases_lt q i) [
  | inl less ↦ let low = before q less in omega (arith, low, is)
  | inr le ↦ let high = behind q le lt in omega (arith, high, is)
]

-- and what it has found stands alone
pub found_alone : RowsAreTheirPlaces → (row : List ℕ) (b i : ℕ) → IsNonDecreasing row → IsBinarySearchResult (λ y. nat_cmp y b) row (Ok i)
    → take (i + 1 - i) (drop i row) ≡ only row b
found_alone places row b i rises found =
    let (within, here) = searched row b (Ok i) found (λ p q le lt. rises p q 0 le lt) in
    let one : i + 1 - i ≡ 1 = omega arith in
    let has : contains row b ≡ true = subst (λ (a : ℕ). contains row a ≡ true) here (places.has row i 0 within) in
    ap (λ (n : ℕ). take n (drop i row)) one
    ∙ ap (λ (xs : List ℕ). take 1 xs) (drop_more row i 0 within)
    ∙ ap (λ (a : ℕ). a ∷ []) here
    ∙ ap (λ (t : Bool). cond t (b ∷ []) []) (sym has)

pub nothing_left : RowsAreTheirPlaces → (row : List ℕ) (b i : ℕ) → IsNonDecreasing row → IsBinarySearchResult (λ y. nat_cmp y b) row (Err i) → [] ≡ only row b
nothing_left places row b i rises found =
    let (within, before, behind) = searched row b (Err i) found (λ p q le lt. rises p q 0 le lt) in
    let lacks : contains row b ≡ false = false_from_ne_true (contains row b)
    (λ has. let (q, lt, is) = places.stands row b has in missed row b i before behind q lt is) in
    ap (λ (has : Bool). cond has (b ∷ []) []) (sym lacks)

-- of those who may come next the others may be left out, where what is usable can be one alone, and all where nothing can
module _ (places : RowsAreTheirPlaces) (book : BookSeen) (marks : List Fact) (k x : ℕ) where
  alone : (row : List ℕ) (n : ℕ) (has : Bool) → contains row n ≡ has → AreFollowers book marks k x row
      → ((b : ℕ) → IsUsable book marks k (After x) b → n ≡ b) → AreFollowers book marks k x (cond has (n ∷ []) [])
  alone row n true is whole named = record {
    each = λ i lt. let (q, below, here) = places.stands row n is in
        let first : 0 ≡ i = omega (arith, lt) in
        subst (λ (j : ℕ). (get_or (n ∷ []) j 0 < activities book) × (x < get_or (n ∷ []) j 0)) first
        (subst (λ (a : ℕ). (a < activities book) × (x < a)) here (whole.each q below));
    all = λ b usable. (0, omega arith, named b usable);
  }
  alone row n false is whole named = record {
    each = λ i lt. absurd (omega (arith, lt));
    all = λ b usable. let (q, lt, here) = whole.all b usable in
        let has : contains row n ≡ true = subst (λ (a : ℕ). contains row a ≡ true) (here ∙ sym (named b usable)) (places.has row q 0 lt) in
        absurd (false≢true (sym is ∙ has));
  }

  pub one_alone : (row : List ℕ) (n : ℕ) (next : List ℕ) → next ≡ only row n → AreFollowers book marks k x row
      → ((b : ℕ) → IsUsable book marks k (After x) b → n ≡ b) → AreFollowers book marks k x next
  one_alone row n next is whole named = subst (AreFollowers book marks k x) (sym is) (alone row n (contains row n) refl whole named)

pub none_usable : (book : BookSeen) (marks : List Fact) (k x : ℕ) → ((b : ℕ) → IsUsable book marks k (After x) b → ⊥) → AreFollowers book marks k x []
none_usable book marks k x unusable = record { each = λ i lt. absurd (omega (arith, lt)); all = λ b usable. absurd (unusable b usable) }
