-- What facts leave open, told kind by kind, as the tables keep it. A fact is of one kind, and for the other kinds its
-- test holds by itself: so the test of a fact is the `and` of one test for each kind, and over all facts it is the
-- `and` of what all Musts, all Cuts and all Ties let. Musts let an aircraft pass where the least of its Musts behind
-- its place is no less than where it goes; Cuts, where none is of that link. Ties are the work: what is kept is
-- nothing, one number, or that several differ, and by induction over the facts this lets a number through exactly where
-- each Tie does.
use Rattle.std.proofs.Common.{◌≡◌, ◌≢◌, ◌∙◌, ℕ, ◌<◌, ◌≤◌, arith, ap, ap₂, Bool, true, false, refl, sym, List, [], ◌∷◌, Option, Some, None, ⊎_elim, ◌⊎◌, inl, inr}
use Rattle.std.specs.Prelude.{◌||◌, ◌&&◌, not, nat_eq, nat_lt, nat_le, All, if◌then◌else◌}
use Rattle.std.specs.List.{list_all, list_any}
use Rattle.std.proofs.lemmas.Bool.{eq-eqb, ne_eqb, cases_eq, cases_lt, cases_Bool, false≢true}
use Rattle.std.proofs.lemmas.Bool.Decides.{nat_tests}
use Rattle.std.proofs.lemmas.List.Elements.{All-head, All-tail}
use Rattle.tail_book.specs.declared.place.Place.{Place}
use Rattle.tail_book.specs.declared.place.Place.TheVariants.{Carry, After}
use Rattle.tail_book.specs.Numbers.{is_none_or}
use Rattle.branch_marks.specs.declared.fact.Fact.{Fact}
use Rattle.branch_marks.specs.declared.fact.Fact.TheVariants.{Bar, Must, Cut, Tie}
use Rattle.branch_marks.specs.declared.named.Named.{Named}
use Rattle.branch_marks.specs.declared.named.Named.TheVariants.{Nothing, One, Several}
use Rattle.tail_book.specs.Seen.{BookSeen}
use Rattle.tail_book.specs.LegalTests.{is_allowed, is_link}
use Rattle.tail_book.specs.Link.{is_connected}
use Rattle.branch_marks.specs.MarkTests.{is_at, lets_fly, lets_go, lets_end, may_end, is_alive, is_alive_at, is_usable}
use Rattle.branch_marks.specs.inside.MarkParts.{first_after, is_no_must_in, leaves_link, ties_only, ties_nothing}
use Rattle.branch_marks.specs.inside.MarkTables.{is_must, is_cut, is_tie, tied_after, tied_before, IsFactWithin}
use Rattle.branch_marks.specs.inside.Named.{with_named, named_from, named_by, lets_number, is_nothing}

pub all_same : {X : Type 0} (p q : X → Bool) → ((x : X) → p x ≡ q x) → (xs : List X) → list_all p xs ≡ list_all q xs
all_same p q same [] = refl
all_same p q same (x ∷ xs) = ap₂ (λ s t. s && t) (same x) (all_same p q same xs)

all_same_of : {X : Type 0} (P : X → Type 0) (p q : X → Bool) → ((x : X) → P x → p x ≡ q x) → (xs : List X) → All P xs → list_all p xs ≡ list_all q xs
all_same_of P p q same [] all = refl
all_same_of P p q same (x ∷ xs) all = ap₂ (λ s t. s && t) (same x (All-head P x xs all)) (all_same_of P p q same xs (All-tail P x xs all))

pub all_and : {X : Type 0} (p q : X → Bool) (xs : List X) → list_all (λ x. p x && q x) xs ≡ (list_all p xs && list_all q xs)
all_and p q [] = refl
all_and p q (x ∷ xs) = ap (λ t. (p x && q x) && t) (all_and p q xs) ∙ four (p x) (q x) (list_all p xs) (list_all q xs)
  where
    four : (a b c d : Bool) → ((a && b) && (c && d)) ≡ ((a && c) && (b && d))
    four a b c d = grind arith

all_true : {X : Type 0} (p : X → Bool) → ((x : X) → p x ≡ true) → (xs : List X) → list_all p xs ≡ true
all_true p each [] = refl
all_true p each (x ∷ xs) = ap₂ (λ s t. s && t) (each x) (all_true p each xs)

pub turned : (c a : ℕ) → nat_eq c a ≡ nat_eq a c
turned c a = grind (arith, nat_tests)

-- what lets an aircraft go
go_part : (k : ℕ) (x : Place) (b : ℕ) (fact : Fact) → lets_go k x b fact ≡ (is_no_must_in k (first_after x) b fact && (leaves_link x b fact && ties_only x b fact))
go_part k x b (Bar j c) = refl
go_part k Carry b (Must j c) = grind (arith, nat_tests)
go_part k (After x) b (Must j c) = grind (arith, nat_tests)
go_part k x b (Cut c d) = and_true (not (is_at x c && nat_eq d b))
  where
    and_true : (t : Bool) → t ≡ (t && true)
    and_true t = grind arith
go_part k x b (Tie c d) = refl

pub go_parts : (k : ℕ) (x : Place) (b : ℕ) (marks : List Fact)
    → list_all (lets_go k x b) marks ≡ (list_all (is_no_must_in k (first_after x) b) marks && (list_all (leaves_link x b) marks && list_all (ties_only x b) marks))
go_parts k x b marks =
    all_same (lets_go k x b) (λ f. is_no_must_in k (first_after x) b f && (leaves_link x b f && ties_only x b f)) (go_part k x b) marks
    ∙ all_and (is_no_must_in k (first_after x) b) (λ f. leaves_link x b f && ties_only x b f) marks
    ∙ ap (λ t. list_all (is_no_must_in k (first_after x) b) marks && t) (all_and (leaves_link x b) (ties_only x b) marks)

-- what lets an aircraft end, where the numbers in the facts are in range
end_part : (m n k : ℕ) (x : Place) (fact : Fact) → IsFactWithin m n fact → lets_end k x fact ≡ (is_no_must_in k (first_after x) n fact && ties_nothing x fact)
end_part m n k x (Bar j c) within = refl
end_part m n k Carry (Must j c) within = let lt = within.1 in grind (arith, nat_tests, lt)
end_part m n k (After x) (Must j c) within = let lt = within.1 in grind (arith, nat_tests, lt)
end_part m n k x (Cut c d) within = refl
end_part m n k x (Tie c d) within = refl

pub end_parts : (m n k : ℕ) (x : Place) (marks : List Fact) → All (IsFactWithin m n) marks
    → may_end marks k x ≡ (list_all (is_no_must_in k (first_after x) n) marks && list_all (ties_nothing x) marks)
unfolding may_end
end_parts m n k x marks within =
    all_same_of (IsFactWithin m n) (lets_end k x) (λ f. is_no_must_in k (first_after x) n f && ties_nothing x f) (end_part m n k x) marks within
    ∙ all_and (is_no_must_in k (first_after x) n) (ties_nothing x) marks

-- Musts: none is in a range where none names a number of it
no_must : (k low high : ℕ) (marks : List Fact) → ((c : ℕ) → low ≤ c → c < high → list_any (is_must k c) marks ≡ false) → list_all (is_no_must_in k low high) marks ≡ true
no_must k low high [] none = refl
no_must k low high (Bar j c ∷ rest) none = no_must k low high rest none
no_must k low high (Cut c d ∷ rest) none = no_must k low high rest none
no_must k low high (Tie c d ∷ rest) none = no_must k low high rest none
no_must k low high (Must j c ∷ rest) none =
    ap₂ (λ s t. s && t) here (no_must k low high rest (λ a above below. (or_none (nat_eq k j && nat_eq a c) (list_any (is_must k a) rest) (none a above below)).1))
  where
    or_none : (s t : Bool) → (s || t) ≡ false → (s ≡ false) × (t ≡ false)
    or_none false t h = (refl, h)
    or_none true t h = absurd (false≢true (sym h))

    here : not (nat_eq j k && (nat_le low c && nat_lt c high)) ≡ true
    here = ⊎_elim
        (λ above. ⊎_elim
        (λ below. let apart = (or_none (nat_eq k j && nat_eq c c) (list_any (is_must k c) rest) (none c above below)).0 in
        ap (λ t. not (t && (nat_le low c && nat_lt c high))) (turned j k) ∙ other (nat_eq k j) (nat_eq c c) (nat_le low c && nat_lt c high) apart (eq-eqb c c refl))
        (λ beyond. grind (arith, nat_tests, beyond))
        (cases_lt c high))
        (λ before. grind (arith, nat_tests, before))
        (cases_le low c)
      where
        cases_le : (a b : ℕ) → (a ≤ b) ⊎ (b < a)
        cases_le a b = ⊎_elim (λ lt. inr lt) (λ le. inl le) (cases_lt b a)

        other : (s t u : Bool) → (s && t) ≡ false → t ≡ true → not (s && u) ≡ true
        other s t u e f = grind arith

-- and one is where one names a number of it
a_must : (k low high c : ℕ) (marks : List Fact) → low ≤ c → c < high → list_any (is_must k c) marks ≡ true → list_all (is_no_must_in k low high) marks ≡ false
a_must k low high c [] above below some = absurd (false≢true some)
a_must k low high c (Bar j d ∷ rest) above below some = a_must k low high c rest above below some
a_must k low high c (Cut d e ∷ rest) above below some = a_must k low high c rest above below some
a_must k low high c (Tie d e ∷ rest) above below some = a_must k low high c rest above below some
a_must k low high c (Must j d ∷ rest) above below some = ⊎_elim
    (λ here. let is_k = and_left j k d c here in let is_c = and_right j k d c here in grind (arith, nat_tests, is_k, is_c, above, below))
    (λ there. and_false (not (nat_eq j k && (nat_le low d && nat_lt d high))) (list_all (is_no_must_in k low high) rest)
    (a_must k low high c rest above below (or_rest (nat_eq k j && nat_eq c d) (list_any (is_must k c) rest) some there)))
    (cases_Bool (nat_eq k j && nat_eq c d))
  where
    and_left : (j k d c : ℕ) → (nat_eq k j && nat_eq c d) ≡ true → j ≡ k
    and_left j k d c h = grind (arith, nat_tests, h)

    and_right : (j k d c : ℕ) → (nat_eq k j && nat_eq c d) ≡ true → d ≡ c
    and_right j k d c h = grind (arith, nat_tests, h)

    and_false : (s t : Bool) → t ≡ false → (s && t) ≡ false
    and_false s t e = grind arith

    or_rest : (s t : Bool) → (s || t) ≡ true → s ≡ false → t ≡ true
    or_rest s t e f = grind arith

-- the least Must in a range is the range's end exactly where there is none
pub least_must : (k low high least : ℕ) (marks : List Fact) → least ≤ high → ((c : ℕ) → low ≤ c → c < least → list_any (is_must k c) marks ≡ false)
    → (least < high → list_any (is_must k least) marks ≡ true) → (least < high → low ≤ least) → nat_eq least high ≡ list_all (is_no_must_in k low high) marks
least_must k low high least marks le none found from = ⊎_elim
    (λ below. ne_eqb least high (λ e. absurd (omega (arith, below, e))) ∙ sym (a_must k low high least marks (from below) below (found below)))
    (λ end.
    let same : least ≡ high = omega (arith, le, end) in
    eq-eqb least high same ∙ sym (no_must k low high marks (λ c above below. none c above (omega (arith, below, same)))))
    (cases_lt least high)

-- Cuts: the link is left where none cuts it
pub no_cut : (a b : ℕ) (marks : List Fact) → not (list_any (is_cut a b) marks) ≡ list_all (leaves_link (After a) b) marks
no_cut a b [] = refl
no_cut a b (Bar j c ∷ rest) = no_cut a b rest
no_cut a b (Must j c ∷ rest) = no_cut a b rest
no_cut a b (Tie c d ∷ rest) = no_cut a b rest
no_cut a b (Cut c d ∷ rest) = either (nat_eq a c) (nat_eq b d) (nat_eq d b) (list_any (is_cut a b) rest) (turned b d) ∙ ap (λ t. not (nat_eq a c && nat_eq d b) && t) (no_cut a b rest)
  where
    either : (s t u v : Bool) → t ≡ u → not ((s && t) || v) ≡ (not (s && u) && not v)
    either s t u v e = grind arith

pub carry_uncut : (b : ℕ) (marks : List Fact) → true ≡ list_all (leaves_link Carry b) marks
carry_uncut b marks = sym (all_true (leaves_link Carry b) each marks)
  where
    each : (fact : Fact) → leaves_link Carry b fact ≡ true
    each (Bar j c) = refl
    each (Must j c) = refl
    each (Cut c d) = refl
    each (Tie c d) = refl

-- Ties: what is named beside what so many facts have named lets a number through where all of them do
lets_more : (so_far : Named) (named : Option ℕ) (v : ℕ) → lets_number (with_named so_far named) v ≡ (lets_number so_far v && is_none_or named v)
lets_more so_far None v = and_true (lets_number so_far v)
  where
    and_true : (t : Bool) → t ≡ (t && true)
    and_true t = grind arith
lets_more Nothing (Some w) v = refl
lets_more Several (Some w) v = refl
lets_more (One u) (Some w) v = ⊎_elim
    (λ same. ap (λ t. lets_number (if t then One u else Several) v) (eq-eqb u w same) ∙ kept u w v same)
    (λ other. ap (λ t. lets_number (if t then One u else Several) v) (ne_eqb u w other) ∙ lost u w v other)
    (cases_eq u w)
  where
    kept : (u w v : ℕ) → u ≡ w → nat_eq u v ≡ (nat_eq u v && nat_eq w v)
    kept u w v e = grind (arith, nat_tests, e)

    lost : (u w v : ℕ) → u ≢ w → false ≡ (nat_eq u v && nat_eq w v)
    lost u w v e = grind (arith, nat_tests, e)

pub lets_from : (names : Fact → Option ℕ) (v : ℕ) (so_far : Named) (marks : List Fact)
    → lets_number (named_from names so_far marks) v ≡ (lets_number so_far v && list_all (λ f. is_none_or (names f) v) marks)
lets_from names v so_far [] = and_true (lets_number so_far v)
  where
    and_true : (t : Bool) → t ≡ (t && true)
    and_true t = grind arith
lets_from names v so_far (fact ∷ rest) =
    lets_from names v (with_named so_far (names fact)) rest ∙ ap (λ t. t && list_all (λ f. is_none_or (names f) v) rest) (lets_more so_far (names fact) v)
    ∙ three (lets_number so_far v) (is_none_or (names fact) v) (list_all (λ f. is_none_or (names f) v) rest)
  where
    three : (x y z : Bool) → ((x && y) && z) ≡ (x && (y && z))
    three x y z = grind arith

-- and nothing is named where none of them names anything
abbrev names_nothing : Option ℕ → Bool
names_nothing None = true
names_nothing (Some v) = false

nothing_more : (so_far : Named) (named : Option ℕ) → is_nothing (with_named so_far named) ≡ (is_nothing so_far && names_nothing named)
nothing_more so_far None = and_true (is_nothing so_far)
  where
    and_true : (t : Bool) → t ≡ (t && true)
    and_true t = grind arith
nothing_more Nothing (Some w) = refl
nothing_more Several (Some w) = refl
nothing_more (One u) (Some w) = ⊎_elim
    (λ same. ap (λ t. is_nothing (if t then One u else Several)) (eq-eqb u w same))
    (λ other. ap (λ t. is_nothing (if t then One u else Several)) (ne_eqb u w other))
    (cases_eq u w)

nothing_from : (names : Fact → Option ℕ) (so_far : Named) (marks : List Fact) → is_nothing (named_from names so_far marks) ≡ (is_nothing so_far && list_all (λ f. names_nothing (names f)) marks)
nothing_from names so_far [] = and_true (is_nothing so_far)
  where
    and_true : (t : Bool) → t ≡ (t && true)
    and_true t = grind arith
nothing_from names so_far (fact ∷ rest) =
    nothing_from names (with_named so_far (names fact)) rest ∙ ap (λ t. t && list_all (λ f. names_nothing (names f)) rest) (nothing_more so_far (names fact))
    ∙ three (is_nothing so_far) (names_nothing (names fact)) (list_all (λ f. names_nothing (names f)) rest)
  where
    three : (x y z : Bool) → ((x && y) && z) ≡ (x && (y && z))
    three x y z = grind arith

-- a Tie that begins at an activity leads to b, and one that ends at b begins there
pub both_ends : (a b : ℕ) (marks : List Fact) → (lets_number (named_by (tied_after a) marks) b && lets_number (named_by (tied_before b) marks) a) ≡ list_all (ties_only (After a) b) marks
both_ends a b marks =
    ap₂ (λ s t. s && t) (lets_from (tied_after a) b Nothing marks) (lets_from (tied_before b) a Nothing marks)
    ∙ sym (all_and (λ f. is_none_or (tied_after a f) b) (λ f. is_none_or (tied_before b f) a) marks)
    ∙ all_same (λ f. is_none_or (tied_after a f) b && is_none_or (tied_before b f) a) (ties_only (After a) b) each marks
  where
    begins : (t : Bool) (d b : ℕ) → is_none_or (if t then Some d else None) b ≡ (not t || nat_eq d b)
    begins true d b = refl
    begins false d b = refl

    each : (fact : Fact) → (is_none_or (tied_after a fact) b && is_none_or (tied_before b fact) a) ≡ ties_only (After a) b fact
    each (Bar j c) = refl
    each (Must j c) = refl
    each (Cut c d) = refl
    each (Tie c d) =
        ap₂ (λ s t. s && t) (begins (nat_eq c a) d b) (begins (nat_eq d b) c a)
        ∙ ap (λ t. (not t || nat_eq d b) && (not (nat_eq d b) || t)) (turned c a)

-- no Tie ends at what an aircraft does first
pub carry_end : (b : ℕ) (marks : List Fact) → is_nothing (named_by (tied_before b) marks) ≡ list_all (ties_only Carry b) marks
carry_end b marks = nothing_from (tied_before b) Nothing marks ∙ all_same (λ f. names_nothing (tied_before b f)) (ties_only Carry b) each marks
  where
    ends : (t : Bool) (c : ℕ) → names_nothing (if t then Some c else None) ≡ (true && (not t || false))
    ends true c = refl
    ends false c = refl

    each : (fact : Fact) → names_nothing (tied_before b fact) ≡ ties_only Carry b fact
    each (Bar j c) = refl
    each (Must j c) = refl
    each (Cut c d) = refl
    each (Tie c d) = ends (nat_eq d b) c

-- no Tie begins at what an aircraft does last
pub last_end : (a : ℕ) (marks : List Fact) → is_nothing (named_by (tied_after a) marks) ≡ list_all (ties_nothing (After a)) marks
last_end a marks = nothing_from (tied_after a) Nothing marks ∙ all_same (λ f. names_nothing (tied_after a f)) (ties_nothing (After a)) each marks
  where
    ends : (t : Bool) (d : ℕ) → names_nothing (if t then Some d else None) ≡ not t
    ends true d = refl
    ends false d = refl

    each : (fact : Fact) → names_nothing (tied_after a fact) ≡ ties_nothing (After a) fact
    each (Bar j c) = refl
    each (Must j c) = refl
    each (Cut c d) = refl
    each (Tie c d) = ends (nat_eq c a) d ∙ ap not (turned c a)

pub carry_last : (marks : List Fact) → true ≡ list_all (ties_nothing Carry) marks
carry_last marks = sym (all_true (ties_nothing Carry) each marks)
  where
    each : (fact : Fact) → ties_nothing Carry fact ≡ true
    each (Bar j c) = refl
    each (Must j c) = refl
    each (Cut c d) = refl
    each (Tie c d) = refl

-- what two answers say of a test that is both of them
pub first_fails : (whole first second answer : Bool) → whole ≡ (first && second) → answer ≡ first → answer ≡ false → answer ≡ whole
first_fails whole first second answer parts same fails = grind arith

pub second_decides : (whole first second held answer : Bool) → whole ≡ (first && second) → held ≡ first → held ≡ true → answer ≡ second → answer ≡ whole
second_decides whole first second held answer parts same holds last = grind arith

-- a link is usable where what is left of it is open and place and time fit
pub usable_parts : (book : BookSeen) (marks : List Fact) (k : ℕ) (x : Place) (b : ℕ)
    → is_usable book marks k x b ≡ (((is_alive book marks k b && is_alive_at book marks k x) && list_all (lets_go k x b) marks) && is_connected book k x b)
unfolding is_usable is_link is_alive
usable_parts book marks k Carry b = five (is_connected book k Carry b) (is_allowed book k b) (list_all (lets_fly k b) marks) (list_all (lets_go k Carry b) marks)
  where
    five : (c r f g : Bool) → ((c && (true && r)) && (true && ((r && f) && g))) ≡ ((((r && f) && true) && g) && c)
    five c r f g = grind arith
usable_parts book marks k (After x) b =
    seven (is_connected book k (After x) b) (is_allowed book k x) (list_all (lets_fly k x) marks) (is_allowed book k b) (list_all (lets_fly k b) marks) (list_all (lets_go k (After x) b) marks)
  where
    seven : (c p e r f g : Bool) → ((c && (p && r)) && ((p && e) && ((r && f) && g))) ≡ ((((r && f) && (p && e)) && g) && c)
    seven c p e r f g = grind arith

-- the number is the one that is named; and it is what a fact names
abbrev pub is_one : Named → ℕ → Bool
is_one Nothing v = false
is_one (One w) v = nat_eq w v
is_one Several v = false

abbrev pub is_some : Option ℕ → ℕ → Bool
is_some None v = false
is_some (Some w) v = nat_eq w v

several_stay : (names : Fact → Option ℕ) (marks : List Fact) → named_from names Several marks ≡ Several
several_stay names [] = refl
several_stay names (fact ∷ rest) = ap (λ s. named_from names s rest) (stays (names fact)) ∙ several_stay names rest
  where
    stays : (named : Option ℕ) → with_named Several named ≡ Several
    stays None = refl
    stays (Some v) = refl

one_more : (so_far : Named) (named : Option ℕ) (v : ℕ) → with_named so_far named ≢ Several → is_one (with_named so_far named) v ≡ (is_one so_far v || is_some named v)
one_more so_far None v apart = or_false (is_one so_far v)
  where
    or_false : (t : Bool) → t ≡ (t || false)
    or_false t = grind arith
one_more Nothing (Some w) v apart = refl
one_more Several (Some w) v apart = absurd (apart refl)
one_more (One u) (Some w) v apart = ⊎_elim
    (λ same. ap (λ t. is_one (if t then One u else Several) v) (eq-eqb u w same) ∙ twice u w v same)
    (λ other. absurd (apart (ap (λ t. if t then One u else Several) (ne_eqb u w other))))
    (cases_eq u w)
  where
    twice : (u w v : ℕ) → u ≡ w → nat_eq u v ≡ (nat_eq u v || nat_eq w v)
    twice u w v e = grind (arith, nat_tests, e)

-- where no two facts name different numbers, the one that is named is what some fact names
pub one_from : (names : Fact → Option ℕ) (test : Fact → Bool) (v : ℕ) → ((fact : Fact) → is_some (names fact) v ≡ test fact) → (so_far : Named) (marks : List Fact)
    → named_from names so_far marks ≢ Several → is_one (named_from names so_far marks) v ≡ (is_one so_far v || list_any test marks)
one_from names test v each so_far [] apart = or_false (is_one so_far v)
  where
    or_false : (t : Bool) → t ≡ (t || false)
    or_false t = grind arith
one_from names test v each so_far (fact ∷ rest) apart =
    one_from names test v each (with_named so_far (names fact)) rest apart
    ∙ ap (λ t. t || list_any test rest) (one_more so_far (names fact) v not_yet)
    ∙ ap (λ t. (is_one so_far v || t) || list_any test rest) (each fact)
    ∙ three (is_one so_far v) (test fact) (list_any test rest)
  where
    three : (x y z : Bool) → ((x || y) || z) ≡ (x || (y || z))
    three x y z = grind arith

    not_yet : with_named so_far (names fact) ≢ Several
    not_yet e = apart (ap (λ s. named_from names s rest) e ∙ several_stay names rest)

pub tie_named : (a b : ℕ) (fact : Fact) → is_some (tied_after a fact) b ≡ is_tie a b fact
tie_named a b (Bar j c) = refl
tie_named a b (Must j c) = refl
tie_named a b (Cut c d) = refl
tie_named a b (Tie c d) = named (nat_eq c a) d ∙ ap₂ (λ s t. s && t) (turned c a) (turned d b)
  where
    named : (t : Bool) (d : ℕ) → is_some (if t then Some d else None) b ≡ (t && nat_eq d b)
    named true d = refl
    named false d = refl

-- a Tie is there where its end is the only one that is named behind its beginning
pub tie_there : (a b : ℕ) (named : Named) (marks : List Fact) → named ≡ named_by (tied_after a) marks → named ≢ Several → is_one named b ≡ list_any (is_tie a b) marks
tie_there a b named marks same apart = ap (λ t. is_one t b) same ∙ one_from (tied_after a) (is_tie a b) b (tie_named a b) Nothing marks (λ e. apart (same ∙ e))
