-- What marks leave open once one fact more is among them. To be alive, to go on and to end are each an `and` over all
-- facts, so with the fact at their end each is what it was, `and` what that fact lets. Where the fact lets it, nothing
-- changes; a link asks this of both its ends too. And what is as usable as before brings the same floor.
use Rattle.std.specs.Prelude.{◌&&◌, ◌||◌, not, nat_eq, if◌then◌else◌, ◌≢◌}
use Rattle.std.proofs.Common.{◌≡◌, ◌∙◌, ℕ, ℤ, Bool, true, false, List, [], ◌∷◌, ◌++◌, refl, sym, ap, Option, None, Some, inl, inr}
use Rattle.std.specs.List.{list_all}
use Rattle.std.proofs.lemmas.Bool.{ne_eqb, eq-eqb}
use Rattle.std.proofs.lemmas.Bool.Decides.{eqb_tells}
use Rattle.std.proofs.lemmas.List.Folds.{list_all-append}
use Rattle.tail_book.specs.Seen.{BookSeen}
use Rattle.tail_book.specs.declared.place.Place.{Place}
use Rattle.tail_book.specs.declared.place.Place.TheVariants.{Carry, After}
use Rattle.tail_book.specs.Counters.{step}
use Rattle.tail_book.specs.LegalTests.{is_allowed, is_link, within_limits}
use Rattle.branch_marks.specs.declared.fact.Fact.{Fact}
use Rattle.branch_marks.specs.declared.fact.Fact.TheVariants.{Bar, Must}
use Rattle.branch_marks.specs.MarkTests.{is_alive, is_alive_at, is_usable, may_end, lets_fly, lets_go, lets_end}
use Rattle.branch_marks.specs.Floors.{stepped_floor}

-- three equations of tests
and_yes : (p t : Bool) → t ≡ true → (p && t) ≡ p
and_yes true t e = e
and_yes false t e = refl

and_no : (p t : Bool) → t ≡ false → (p && t) ≡ false
and_no true t e = e
and_no false t e = refl

regroup : (p q t : Bool) → (p && (q && (t && true))) ≡ ((p && q) && t)
regroup true true true = refl
regroup true true false = refl
regroup true false t = refl
regroup false q t = refl

regroup_four : (p q r s t : Bool) → (p && (q && (r && (s && (t && true))))) ≡ ((p && (q && (r && s))) && t)
regroup_four true true true true true = refl
regroup_four true true true true false = refl
regroup_four true true true false t = refl
regroup_four true true false s t = refl
regroup_four true false r s t = refl
regroup_four false q r s t = refl

module _ (book : BookSeen) (marks : List Fact) (fact : Fact) where
  abbrev more : List Fact
  more = marks ++ fact ∷ []

  pub alive_more : (k a : ℕ) → is_alive book (marks ++ fact ∷ []) k a ≡ (is_alive book marks k a && lets_fly k a fact)
  unfolding is_alive
  alive_more k a =
      ap (λ (t : Bool). is_allowed book k a && t) (list_all-append (lets_fly k a) marks (fact ∷ []))
      ∙ regroup (is_allowed book k a) (list_all (lets_fly k a) marks) (lets_fly k a fact)

  pub end_more : (k : ℕ) (x : Place) → may_end (marks ++ fact ∷ []) k x ≡ (may_end marks k x && lets_end k x fact)
  unfolding may_end
  end_more k x =
      list_all-append (lets_end k x) marks (fact ∷ [])
      ∙ regroup true (list_all (lets_end k x) marks) (lets_end k x fact)

  pub alive_kept : (k a : ℕ) → lets_fly k a fact ≡ true → is_alive book (marks ++ fact ∷ []) k a ≡ is_alive book marks k a
  alive_kept k a e = alive_more k a ∙ and_yes (is_alive book marks k a) (lets_fly k a fact) e

  pub alive_at_kept : (k : ℕ) → ((a : ℕ) → is_alive book (marks ++ fact ∷ []) k a ≡ is_alive book marks k a)
      → (x : Place) → is_alive_at book (marks ++ fact ∷ []) k x ≡ is_alive_at book marks k x
  alive_at_kept k same Carry = refl
  alive_at_kept k same (After x) = same x

  -- where both ends stay as they are, what becomes of a link is what the fact lets
  pub usable_more : (k : ℕ) (x : Place) (b : ℕ) → is_alive_at book (marks ++ fact ∷ []) k x ≡ is_alive_at book marks k x
      → is_alive book (marks ++ fact ∷ []) k b ≡ is_alive book marks k b
      → is_usable book (marks ++ fact ∷ []) k x b ≡ (is_usable book marks k x b && lets_go k x b fact)
  unfolding is_usable
  usable_more k x b before after =
      ap (λ (t : Bool). is_link book k x b && (t && (is_alive book (marks ++ fact ∷ []) k b && list_all (lets_go k x b) (marks ++ fact ∷ [])))) before
      ∙ ap (λ (t : Bool). is_link book k x b && (is_alive_at book marks k x && (t && list_all (lets_go k x b) (marks ++ fact ∷ [])))) after
      ∙ ap (λ (t : Bool). is_link book k x b && (is_alive_at book marks k x && (is_alive book marks k b && t))) (list_all-append (lets_go k x b) marks (fact ∷ []))
      ∙ regroup_four (is_link book k x b) (is_alive_at book marks k x) (is_alive book marks k b) (list_all (lets_go k x b) marks) (lets_go k x b fact)

  pub usable_kept : (k : ℕ) (x : Place) (b : ℕ) → is_alive_at book (marks ++ fact ∷ []) k x ≡ is_alive_at book marks k x
      → is_alive book (marks ++ fact ∷ []) k b ≡ is_alive book marks k b → lets_go k x b fact ≡ true
      → is_usable book (marks ++ fact ∷ []) k x b ≡ is_usable book marks k x b
  usable_kept k x b before after e = usable_more k x b before after ∙ and_yes (is_usable book marks k x b) (lets_go k x b fact) e

  pub end_kept : (k : ℕ) (x : Place) → lets_end k x fact ≡ true → may_end (marks ++ fact ∷ []) k x ≡ may_end marks k x
  end_kept k x e = end_more k x ∙ and_yes (may_end marks k x) (lets_end k x fact) e

-- what is as usable as before brings the same
pub same_brings : (book : BookSeen) (old new : List Fact) (k : ℕ) (x : Place) (b : ℕ) (floor : Option (List ℤ)) → is_usable book new k x b ≡ is_usable book old k x b
    → stepped_floor book new k x b floor ≡ stepped_floor book old k x b floor
same_brings book old new k x b None e = refl
same_brings book old new k x b (Some values) e =
    ap (λ (t : Bool). if t && within_limits book.rules.counters (step book k x b values) then Some (step book k x b values) else None) e

-- a Bar of k lets others fly, and k all but its activity
pub bar_lets_others : (k c j a : ℕ) → j ≢ k → lets_fly j a (Bar k c) ≡ true
bar_lets_others k c j a ne = ap (λ (t : Bool). not (t && nat_eq c a)) (ne_eqb k j (λ e. ne (sym e)))

pub bar_lets_elsewhere : (k c a : ℕ) → a ≢ c → lets_fly k a (Bar k c) ≡ true
bar_lets_elsewhere k c a ne = ap (λ (t : Bool). not (nat_eq k k && t)) (ne_eqb c a (λ e. ne (sym e))) ∙ ap not (and_no (nat_eq k k) false refl)

pub bar_stops : (k c : ℕ) → lets_fly k c (Bar k c) ≡ false
bar_stops k c = ap (λ (t : Bool). not (t && nat_eq c c)) (eq-eqb k k refl) ∙ ap not (eq-eqb c c refl)

module _ (book : BookSeen) (marks : List Fact) (k c : ℕ) where
  -- with a Bar of k: others are as before, k is not alive at c, and as before elsewhere
  pub others_alive : (j a : ℕ) → j ≢ k → is_alive book (marks ++ Bar k c ∷ []) j a ≡ is_alive book marks j a
  others_alive j a ne = alive_kept book marks (Bar k c) j a (bar_lets_others k c j a ne)

  pub barred : is_alive book (marks ++ Bar k c ∷ []) k c ≡ false
  barred = alive_more book marks (Bar k c) k c ∙ and_no (is_alive book marks k c) (lets_fly k c (Bar k c)) (bar_stops k c)

  pub elsewhere_alive : (a : ℕ) → a ≢ c → is_alive book (marks ++ Bar k c ∷ []) k a ≡ is_alive book marks k a
  elsewhere_alive a ne = alive_kept book marks (Bar k c) k a (bar_lets_elsewhere k c a ne)

  pub elsewhere_usable : (x b : ℕ) → x ≢ c → b ≢ c → is_usable book (marks ++ Bar k c ∷ []) k (After x) b ≡ is_usable book marks k (After x) b
  elsewhere_usable x b nx nb = usable_kept book marks (Bar k c) k (After x) b (elsewhere_alive x nx) (elsewhere_alive b nb) refl

  pub first_usable : (b : ℕ) → b ≢ c → is_usable book (marks ++ Bar k c ∷ []) k Carry b ≡ is_usable book marks k Carry b
  first_usable b nb = usable_kept book marks (Bar k c) k Carry b refl (elsewhere_alive b nb) refl

  -- with a Must of k, where c was not alive for the other: the other is as before
  pub must_alive : (j a : ℕ) → j ≢ k → is_alive book marks j c ≡ false → is_alive book (marks ++ Must k c ∷ []) j a ≡ is_alive book marks j a
  must_alive j a ne dead = elim (eqb_tells c a) [
    | inl here ↦ (let same : is_alive book marks j a ≡ false = ap (λ (z : ℕ). is_alive book marks j z) (sym here.1) ∙ dead in
        alive_more book marks (Must k c) j a ∙ ap (λ (t : Bool). t && lets_fly j a (Must k c)) same ∙ sym same)
    | inr other ↦ alive_kept book marks (Must k c) j a (ap (λ (t : Bool). not t || nat_eq k j) other.0)
  ]
