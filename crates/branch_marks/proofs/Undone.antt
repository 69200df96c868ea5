-- Tables of facts of which none comes twice, when the last one is taken back. What some fact says, and the last one does
-- not, is what some other says; what the last one says, no other does. Where one number is named for an activity and the
-- last fact names it, no other names one: it would be the same fact. And who is alive is who is allowed, is not barred, and
-- is no other's to carry, so it is found from the tables of these.
use Rattle.std.proofs.Common.{◌≡◌, ◌≢◌, ◌∙◌, ℕ, ◌+◌, ◌<◌, arith, ap, ap₂, Bool, true, false, refl, sym, subst, List, [], ◌∷◌, ◌++◌, length, take, get_or, append_assoc, Option, Some, None, ⊎_elim, ◌⊎◌}
use Rattle.std.specs.Prelude.{◌||◌, ◌&&◌, not, nat_eq, if◌then◌else◌}
use Rattle.std.specs.List.{list_all, list_any}
use Rattle.std.proofs.lemmas.Bool.{cases_eq, eq-eqb, ne_eqb}
use Rattle.std.proofs.lemmas.Bool.Decides.{nat_tests}
use Rattle.std.proofs.Math.ListN.{set}
use Rattle.std.proofs.lemmas.List.{append-nil, get_or-set_same, get_or-set_other, length-set, take_all, take_more}
use Rattle.branch_marks.specs.declared.fact.Fact.{Fact}
use Rattle.branch_marks.specs.declared.fact.Fact.TheVariants.{Bar, Must, Cut, Tie}
use Rattle.branch_marks.specs.declared.named.Named.{Named}
use Rattle.branch_marks.specs.declared.named.Named.TheVariants.{Nothing, One, Several}
use Rattle.branch_marks.specs.declared.naming.Naming.{Naming}
use Rattle.branch_marks.specs.declared.naming.Naming.TheVariants.{Next, Previous, Carrier}
use Rattle.branch_marks.specs.FactTests.{has_fact, same_fact}
use Rattle.branch_marks.specs.MarkTests.{lets_fly}
use Rattle.branch_marks.specs.inside.BitRows.{BitRowsSeen, has_pair, AreChanged}
use Rattle.branch_marks.specs.inside.Named.{lets_number, named_by, one_at, with_named}
use Rattle.branch_marks.specs.inside.Once.{AreOnce, AreOnceBehind}
use Rattle.branch_marks.specs.inside.MarkTables.{IsAliveTable, IsFactTable, IsFactWithin, IsNamedTable, NamesBelow, given_to, is_about, is_bar, is_cut, is_free, is_must, names_at, tied_before}
use Rattle.branch_marks.proofs.FactTables.{all_more, any_more, named_last}
use Rattle.branch_marks.proofs.FactsDecided.{same_is}
use Rattle.branch_marks.proofs.Parts.{all_and, all_same, is_one, is_some, lets_from, one_from, tie_named, turned}
use Rattle.tail_book.specs.Numbers.{is_none_or}

-- one fact more behind facts of which none comes twice
pub once_more : (before facts : List Fact) (fact : Fact) → AreOnceBehind before facts → has_fact (before ++ facts) fact ≡ false → AreOnceBehind before (facts ++ fact ∷ [])
once_more before [] fact once new = (subst (λ (z : List Fact). has_fact z fact ≡ false) (append-nil before) new, tt)
once_more before (one ∷ facts) fact once new =
    (once.0, once_more (before ++ one ∷ []) facts fact once.1 (subst (λ (z : List Fact). has_fact z fact ≡ false) (sym (append_assoc before (one ∷ []) facts)) new))

-- the last of them, and the ones that are left
pub once_split : (before left : List Fact) (fact : Fact) → AreOnceBehind before (left ++ fact ∷ []) → AreOnceBehind before left × (has_fact (before ++ left) fact ≡ false)
once_split before [] fact once = (tt, subst (λ (z : List Fact). has_fact z fact ≡ false) (sym (append-nil before)) once.0)
once_split before (one ∷ left) fact once =
    let rest = once_split (before ++ one ∷ []) left fact once.1 in
    ((once.0, rest.0), subst (λ (z : List Fact). has_fact z fact ≡ false) (append_assoc before (one ∷ []) left) rest.1)

-- facts are those before the last one, and the last one
pub split_last : (facts : List Fact) (n : ℕ) (fact : Fact) → n + 1 ≡ length facts → fact ≡ get_or facts n fact → facts ≡ take n facts ++ fact ∷ []
split_last facts n fact long is =
    sym (take_all (n + 1) facts (omega (arith, long))) ∙ take_more facts n fact (omega (arith, long)) ∙ ap (λ (f : Fact). take n facts ++ f ∷ []) (sym is)

-- a fact of the same kind and numbers as the last one is none of those that are left
not_again : (left : List Fact) (fact other : Fact) → has_fact left fact ≡ false → same_fact other fact ≡ true → has_fact left other ≡ false
not_again left fact other new same = subst (λ (f : Fact). has_fact left f ≡ false) (sym (same_is other fact same)) new

-- the rows without the last fact
facts_less : (rows columns : ℕ) (kind : ℕ → ℕ → Fact → Bool) (left : List Fact) (fact : Fact) (old new : BitRowsSeen)
    → ((r c : ℕ) → kind r c fact ≡ true → list_any (kind r c) left ≡ false) → IsFactTable rows columns kind (left ++ fact ∷ []) old
    → AreChanged (λ r c had. had && not (kind r c fact)) old new → IsFactTable rows columns kind left new
facts_less rows columns kind left fact old new once table changed = record {
  rows_are = changed.rows ∙ table.rows_are;
  columns_are = changed.columns ∙ table.columns_are;
  pairs = λ r c lr lc. changed.pairs r c (rw table.columns_are lc) ∙ ap (λ t. t && not (kind r c fact)) (table.pairs r c lr lc ∙ any_more (kind r c) left fact)
      ∙ undone (list_any (kind r c) left) (kind r c fact) (once r c);
}
  where
    undone : (x y : Bool) → (y ≡ true → x ≡ false) → ((x || y) && not y) ≡ x
    undone x true once = let none = once refl in grind (arith, none)
    undone x false once = grind arith

pub bars_less : (m n : ℕ) (left : List Fact) (fact : Fact) (old new : BitRowsSeen) → has_fact left fact ≡ false → IsFactTable m n is_bar (left ++ fact ∷ []) old
    → AreChanged (λ r c had. had && not (is_bar r c fact)) old new → IsFactTable m n is_bar left new
bars_less m n left fact old new once table changed = facts_less m n is_bar left fact old new (λ k a same. not_again left fact (Bar k a) once same) table changed

pub musts_less : (m n : ℕ) (left : List Fact) (fact : Fact) (old new : BitRowsSeen) → has_fact left fact ≡ false → IsFactTable m n is_must (left ++ fact ∷ []) old
    → AreChanged (λ r c had. had && not (is_must r c fact)) old new → IsFactTable m n is_must left new
musts_less m n left fact old new once table changed = facts_less m n is_must left fact old new (λ k a same. not_again left fact (Must k a) once same) table changed

pub cuts_less : (n : ℕ) (left : List Fact) (fact : Fact) (old new : BitRowsSeen) → has_fact left fact ≡ false → IsFactTable n n is_cut (left ++ fact ∷ []) old
    → AreChanged (λ r c had. had && not (is_cut r c fact)) old new → IsFactTable n n is_cut left new
cuts_less n left fact old new once table changed = facts_less n n is_cut left fact old new (λ a b same. not_again left fact (Cut a b) once same) table changed

-- which fact names a number before an activity, and which one gives an activity to an aircraft
before_named : (b a : ℕ) (fact : Fact) → is_some (tied_before b fact) a ≡ same_fact (Tie a b) fact
before_named b a (Bar j c) = refl
before_named b a (Must j c) = refl
before_named b a (Cut c d) = refl
before_named b a (Tie c d) = named (nat_eq d b) c ∙ two (nat_eq d b) (nat_eq c a) (nat_eq a c) (nat_eq b d) (turned d b) (turned c a)
  where
    named : (t : Bool) (c : ℕ) → is_some (if t then Some c else None) a ≡ (t && nat_eq c a)
    named true c = refl
    named false c = refl

    two : (s t u v : Bool) → s ≡ v → t ≡ u → (s && t) ≡ (u && v)
    two s t u v e f = grind arith

carrier_named : (a k : ℕ) (fact : Fact) → is_some (given_to a fact) k ≡ same_fact (Must k a) fact
carrier_named a k (Bar j c) = refl
carrier_named a k (Cut c d) = refl
carrier_named a k (Tie c d) = refl
carrier_named a k (Must j c) = named (nat_eq c a) j ∙ two (nat_eq c a) (nat_eq j k) (nat_eq k j) (nat_eq a c) (turned c a) (turned j k)
  where
    named : (t : Bool) (j : ℕ) → is_some (if t then Some j else None) k ≡ (t && nat_eq j k)
    named true j = refl
    named false j = refl

    two : (s t u v : Bool) → s ≡ v → t ≡ u → (s && t) ≡ (u && v)
    two s t u v e f = grind arith

some_is : (v w : ℕ) → is_some (Some v) w ≡ true → v ≡ w
some_is v w h = grind (arith, nat_tests, h)

-- the fact that names a number for an activity
abbrev naming_fact : Naming → ℕ → ℕ → Fact
naming_fact Next a v = Tie a v
naming_fact Previous a v = Tie v a
naming_fact Carrier a v = Must v a

names_by : (naming : Naming) (a v : ℕ) (fact : Fact) → is_some (names_at naming a fact) v ≡ same_fact (naming_fact naming a v) fact
names_by Next a v fact = tie_named a v fact
names_by Previous a v fact = before_named a v fact
names_by Carrier a v fact = carrier_named a v fact

-- where the last fact names a number, and not several are named with it, nothing is named by the others
nothing_left : (named : Named) (v : ℕ) → with_named named (Some v) ≢ Several → is_one named v ≡ false → named ≡ Nothing
nothing_left Nothing v apart other = refl
nothing_left (One w) v apart other = absurd (apart (ap (λ t. if t then One w else Several) other))
nothing_left Several v apart other = absurd (apart refl)

pub nothing_named : (naming : Naming) (a v : ℕ) (left : List Fact) (fact : Fact) → names_at naming a fact ≡ Some v → has_fact left fact ≡ false
    → named_by (names_at naming a) (left ++ fact ∷ []) ≢ Several → named_by (names_at naming a) left ≡ Nothing
nothing_named naming a v left fact names new apart = nothing_left (named_by (names_at naming a) left) v last_apart other
  where
    last : named_by (names_at naming a) (left ++ fact ∷ []) ≡ with_named (named_by (names_at naming a) left) (Some v)
    last = named_last (names_at naming a) Nothing left fact ∙ ap (λ (o : Option ℕ). with_named (named_by (names_at naming a) left) o) names

    last_apart : with_named (named_by (names_at naming a) left) (Some v) ≢ Several
    last_apart e = apart (last ∙ e)

    left_apart : named_by (names_at naming a) left ≢ Several
    left_apart e = last_apart (ap (λ (s : Named). with_named s (Some v)) e)

    same : same_fact (naming_fact naming a v) fact ≡ true
    same = sym (names_by naming a v fact) ∙ ap (λ (o : Option ℕ). is_some o v) names ∙ eq-eqb v v refl

    other : is_one (named_by (names_at naming a) left) v ≡ false
    other = one_from (names_at naming a) (same_fact (naming_fact naming a v)) v (names_by naming a v) Nothing left left_apart ∙ not_again left fact (naming_fact naming a v) new same

-- what is named where the last fact names nothing is what the others name
pub named_else : (naming : Naming) (a : ℕ) (left : List Fact) (fact : Fact) → names_at naming a fact ≡ None
    → named_by (names_at naming a) (left ++ fact ∷ []) ≡ named_by (names_at naming a) left
named_else naming a left fact none = named_last (names_at naming a) Nothing left fact ∙ ap (λ (o : Option ℕ). with_named (named_by (names_at naming a) left) o) none

-- who is let fly: whom no Bar names, and nobody but the carrier
fly_parts : (k a : ℕ) (marks : List Fact) → list_all (lets_fly k a) marks ≡ (not (list_any (is_bar k a) marks) && lets_number (named_by (given_to a) marks) k)
fly_parts k a marks =
    all_same (lets_fly k a) (λ f. not (is_bar k a f) && is_none_or (given_to a f) k) each marks
    ∙ all_and (λ f. not (is_bar k a f)) (λ f. is_none_or (given_to a f) k) marks
    ∙ ap₂ (λ s t. s && t) (none marks) (sym (lets_from (given_to a) k Nothing marks))
  where
    gives : (t : Bool) (j : ℕ) → (not t || nat_eq j k) ≡ (true && is_none_or (if t then Some j else None) k)
    gives true j = refl
    gives false j = refl

    barred : (s t u v : Bool) → s ≡ u → t ≡ v → not (s && t) ≡ (not (u && v) && true)
    barred s t u v e f = grind arith

    each : (fact : Fact) → lets_fly k a fact ≡ (not (is_bar k a fact) && is_none_or (given_to a fact) k)
    each (Bar j c) = barred (nat_eq j k) (nat_eq c a) (nat_eq k j) (nat_eq a c) (turned j k) (turned c a)
    each (Must j c) = gives (nat_eq c a) j
    each (Cut c d) = refl
    each (Tie c d) = refl

    more : (s t u : Bool) → u ≡ not t → (not s && u) ≡ not (s || t)
    more s t u e = grind arith

    none : (facts : List Fact) → list_all (λ f. not (is_bar k a f)) facts ≡ not (list_any (is_bar k a) facts)
    none [] = refl
    none (f ∷ rest) = more (is_bar k a f) (list_any (is_bar k a) rest) (list_all (λ f. not (is_bar k a f)) rest) (none rest)

-- a fact that is not about an aircraft at an activity lets it fly there
about_others : (k a : ℕ) (fact : Fact) → is_about k a fact ≡ false → lets_fly k a fact ≡ true
about_others k a (Bar j c) not_about = none (nat_eq j k) (nat_eq c a) (nat_eq k j) (nat_eq a c) (turned j k) (turned c a) not_about
  where
    none : (s t u v : Bool) → s ≡ u → t ≡ v → (u && v) ≡ false → not (s && t) ≡ true
    none s t u v e f h = grind arith
about_others k a (Must j c) not_about = none (nat_eq c a) (nat_eq a c) (nat_eq j k) (turned c a) not_about
  where
    none : (s t u : Bool) → s ≡ t → t ≡ false → (not s || u) ≡ true
    none s t u e f = grind arith
about_others k a (Cut c d) not_about = refl
about_others k a (Tie c d) not_about = refl

-- who is alive without the last fact
pub alive_less : (m n : ℕ) (allowed bars : BitRowsSeen) (carriers : List Named) (left : List Fact) (fact : Fact) (old new : BitRowsSeen)
    → IsFactTable m n is_bar left bars → IsNamedTable n given_to left carriers → IsAliveTable m n allowed (left ++ fact ∷ []) old
    → AreChanged (λ a k had. had || (is_about k a fact && is_free allowed bars carriers a k)) old new → IsAliveTable m n allowed left new
alive_less m n allowed bars carriers left fact old new barred carried table changed = record {
  rows = changed.rows ∙ table.rows;
  columns = changed.columns ∙ table.columns;
  pairs = λ a k la lk.
      changed.pairs a k (rw table.columns lk)
      ∙ ap₂ (λ s t. s || (is_about k a fact && t)) (table.pairs a k la lk ∙ ap (λ t. has_pair allowed a k && t) (all_more (lets_fly k a) left fact)) (free a k la lk)
      ∙ back (has_pair allowed a k) (list_all (lets_fly k a) left) (lets_fly k a fact) (is_about k a fact) (about_others k a fact);
}
  where
    free : (a k : ℕ) → a < n → k < m → is_free allowed bars carriers a k ≡ (has_pair allowed a k && list_all (lets_fly k a) left)
    free a k la lk =
        ap₂ (λ s t. has_pair allowed a k && (not s && lets_number t k)) (barred.pairs k a lk la) (carried.each a la)
        ∙ ap (λ t. has_pair allowed a k && t) (sym (fly_parts k a left))

    back : (x y z w : Bool) → (w ≡ false → z ≡ true) → ((x && (y && z)) || (w && (x && y))) ≡ (x && y)
    back x y z true others = grind arith
    back x y z false others = let lets = others refl in grind (arith, lets)

-- the activities in a fact within the marks are below their number
pub below_of : (m n : ℕ) (fact : Fact) → IsFactWithin m n fact → NamesBelow n fact
below_of m n (Bar k a) h = h.1
below_of m n (Must k a) h = h.1
below_of m n (Cut a b) h = h
below_of m n (Tie a b) h = h

-- what so many facts name, and one more
pub named_next : (naming : Naming) (a : ℕ) (facts : List Fact) (i : ℕ) (fact : Fact) (named : Named) → i < length facts → fact ≡ get_or facts i fact
    → named ≡ named_by (names_at naming a) (take i facts) → with_named named (names_at naming a fact) ≡ named_by (names_at naming a) (take (i + 1) facts)
named_next naming a facts i fact named lt is so_far =
    ap (λ (s : Named). with_named s (names_at naming a fact)) so_far
    ∙ sym (named_last (names_at naming a) Nothing (take i facts) fact)
    ∙ ap (λ (f : Fact). named_by (names_at naming a) (take i facts ++ f ∷ [])) is
    ∙ ap (λ (z : List Fact). named_by (names_at naming a) z) (sym (take_more facts i fact lt))

-- the list without what the last fact names: changed at the one activity for which it names a number, where there is one
pub named_less : (n : ℕ) (naming : Naming) (left : List Fact) (fact : Fact) (a v : ℕ) (now : Named) (named : List Named)
    → ((c : ℕ) → names_at naming c fact ≡ one_at a v c) → a < n → now ≡ named_by (names_at naming a) left → IsNamedTable n (names_at naming) (left ++ fact ∷ []) named
    → IsNamedTable n (names_at naming) left (set named a now)
named_less n naming left fact a v now named names la is table = record {
  count = length-set named a now ∙ table.count;
  each = λ c lc. ⊎_elim
      (λ same. ap (λ i. get_or (set named a now) i Nothing) same ∙ get_or-set_same named a now Nothing (rw table.count la) ∙ is ∙ ap (λ i. named_by (names_at naming i) left) (sym same))
      (λ other. get_or-set_other named a c now Nothing other ∙ table.each c lc
      ∙ named_else naming c left fact (names c ∙ ap (λ t. if t then Some v else None) (ne_eqb a c (λ e. other (sym e)))))
      (cases_eq c a);
}

pub named_none_less : (n : ℕ) (naming : Naming) (left : List Fact) (fact : Fact) (named : List Named) → ((c : ℕ) → names_at naming c fact ≡ None)
    → IsNamedTable n (names_at naming) (left ++ fact ∷ []) named → IsNamedTable n (names_at naming) left named
named_none_less n naming left fact named none table = record {
  count = table.count;
  each = λ c lc. table.each c lc ∙ named_else naming c left fact (none c);
}

-- the activity for which it names a number
pub names_here : (naming : Naming) (a v : ℕ) (fact : Fact) → ((c : ℕ) → names_at naming c fact ≡ one_at a v c) → names_at naming a fact ≡ Some v
names_here naming a v fact names = names a ∙ ap (λ t. if t then Some v else None) (eq-eqb a a refl)

pub not_several : (named : Named) → (named ≡ Nothing) ⊎ ((v : ℕ) × (named ≡ One v)) → named ≢ Several
not_several named one several = ⊎_elim (λ nothing. absurd (cc)) (λ some. let is = some.1 in absurd (cc)) one

-- the last fact is none of those before it
pub last_is_new : (facts : List Fact) (n : ℕ) (fact : Fact) → n + 1 ≡ length facts → fact ≡ get_or facts n fact → AreOnce facts → has_fact (take n facts) fact ≡ false
last_is_new facts n fact long is once = (once_split [] (take n facts) fact (subst (λ (z : List Fact). AreOnce z) (split_last facts n fact long is) once)).1
