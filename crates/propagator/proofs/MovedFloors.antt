-- Flags of floors that moved. Where no flag is set, the floor is what it was or is gone: this holds where nothing was
-- written, where one floor was and its activity is flagged or it came out as it was, and where a floor is taken away.
-- As flags are never taken back, it holds over two changes where it holds over each, and so over the rows of all
-- aircraft.
use Rattle.std.specs.Prelude.{◌⊎◌, nat_eq}
use Rattle.std.proofs.Common.{◌≡◌, ◌∙◌, ℕ, ℤ, ◌<◌, Bool, true, false, inl, inr, List, [], ◌∷◌, length, get_or, refl, sym, ap, subst, Option, None}
use Rattle.std.proofs.lemmas.Bool.{both_ways, true_from_ne_false, or_left, eq-eqb}
use Rattle.std.proofs.lemmas.Bool.Decides.{eqb_tells}
use Rattle.std.proofs.Math.ListN.{set}
use Rattle.std.proofs.lemmas.List.{get_or-set_same, get_or-set_other}
use Rattle.tail_book.specs.Numbers.{contains}
use Rattle.floor_rows.specs.inside.FloorRow.{FloorRowSeen, floor_in, IsSetAt}
use Rattle.propagator.specs.inside.Rows.{floors_in, ChangesOnly, no_row}
use Rattle.propagator.specs.inside.Moves.{KeepsFlags, LosesFloors, MovesFloors, MovesAll}
use Rattle.propagator.specs.inside.Touching.{is_set, AreSetToo}

-- one floor and then another
kept_or_lost : (first mid last : Option (List ℤ)) → (mid ≡ first) ⊎ (mid ≡ None) → (last ≡ mid) ⊎ (last ≡ None) → (last ≡ first) ⊎ (last ≡ None)
kept_or_lost first mid last h (inr none) = inr none
kept_or_lost first mid last (inl same) (inl e) = inl (e ∙ same)
kept_or_lost first mid last (inr none) (inl e) = inr (e ∙ none)

pub loses_none : (row : FloorRowSeen) → LosesFloors row row
loses_none row a = inl refl

pub loses_both : (row mid next : FloorRowSeen) → LosesFloors row mid → LosesFloors mid next → LosesFloors row next
loses_both row mid next first second a = kept_or_lost (floor_in row a) (floor_in mid a) (floor_in next a) (first a) (second a)

pub loses_one : (row next : FloorRowSeen) (b : ℕ) → IsSetAt b None row next → LosesFloors row next
loses_one row next b set a = elim (eqb_tells a b) [
  | inl here ↦ inr (ap (λ (x : ℕ). floor_in next x) here.1 ∙ set.here)
  | inr other ↦ inl (set.others a other.1)
]

pub moves_none : (flags : List Bool) (row : FloorRowSeen) → MovesFloors flags flags row row
moves_none flags row = record { keeps = λ i off. off; floors = λ a off. inl refl }

pub moves_same : (flags : List Bool) (b : ℕ) (floor : Option (List ℤ)) (row next : FloorRowSeen) → IsSetAt b floor row next → floor_in next b ≡ floor_in row b
    → MovesFloors flags flags row next
moves_same flags b floor row next set same = record {
  keeps = λ i off. off;
  floors = λ a off. elim (eqb_tells a b) [
    | inl here ↦ inl (ap (λ (x : ℕ). floor_in next x) here.1 ∙ same ∙ ap (λ (x : ℕ). floor_in row x) (sym here.1))
    | inr other ↦ inl (set.others a other.1)
  ];
}

-- one number is set
pub set_keeps : (b : ℕ) (old new : List Bool) → AreSetToo (b ∷ []) old new → KeepsFlags old new
set_keeps b old new set i off = (set i off).0

pub set_on : (b : ℕ) (old new : List Bool) → AreSetToo (b ∷ []) old new → is_set new b ≡ true
set_on b old new set = true_from_ne_false (is_set new b) (λ off. both_ways (contains (b ∷ []) b) (set b off).1 (or_left (nat_eq b b) false (eq-eqb b b refl)))

pub still_on : (old new : List Bool) (i : ℕ) → KeepsFlags old new → is_set old i ≡ true → is_set new i ≡ true
still_on old new i keeps on = true_from_ne_false (is_set new i) (λ off. both_ways (is_set old i) (keeps i off) on)

pub moves_one : (old new : List Bool) (b : ℕ) (floor : Option (List ℤ)) (row next : FloorRowSeen) → IsSetAt b floor row next → AreSetToo (b ∷ []) old new
    → MovesFloors old new row next
moves_one old new b floor row next set more = record {
  keeps = set_keeps b old new more;
  floors = λ a off. inl (set.others a (λ same. both_ways (contains (b ∷ []) a) (more a off).1 (or_left (nat_eq a b) false (eq-eqb a b same))));
}

pub moves_losing : (f g : List Bool) (row mid last next : FloorRowSeen) → LosesFloors row mid → MovesFloors f g mid last → LosesFloors last next → MovesFloors f g row next
moves_losing f g row mid last next first moves second = record {
  keeps = moves.keeps;
  floors = λ a off. kept_or_lost (floor_in row a) (floor_in last a) (floor_in next a)
      (kept_or_lost (floor_in row a) (floor_in mid a) (floor_in last a) (first a) (moves.floors a off)) (second a);
}

pub all_none : (flags : List Bool) (rows : List FloorRowSeen) → MovesAll flags flags rows rows
all_none flags rows = record { keeps = λ i off. off; floors = λ k a off. inl refl }

pub all_both : (f g h : List Bool) (rows mids nexts : List FloorRowSeen) → MovesAll f g rows mids → MovesAll g h mids nexts → MovesAll f h rows nexts
all_both f g h rows mids nexts first second = record {
  keeps = λ i off. first.keeps i (second.keeps i off);
  floors = λ k a off. kept_or_lost (get_or (floors_in rows k) a None) (get_or (floors_in mids k) a None) (get_or (floors_in nexts k) a None)
      (first.floors k a (second.keeps a off)) (second.floors k a off);
}

-- the row of one aircraft moved, and no other changed
pub all_of : (f g : List Bool) (rows nexts : List FloorRowSeen) (k : ℕ) (row next : FloorRowSeen) → row.floors ≡ floors_in rows k → next.floors ≡ floors_in nexts k
    → ChangesOnly k rows nexts → MovesFloors f g row next → MovesAll f g rows nexts
all_of f g rows nexts k row next is become others moves = record {
  keeps = moves.keeps;
  floors = λ j a off. elim (eqb_tells j k) [
    | inr other ↦ inl (ap (λ (listed : List (Option (List ℤ))). get_or listed a None) (others j other.1))
    | inl here ↦ subst (λ (x : ℕ). (get_or (floors_in nexts x) a None ≡ get_or (floors_in rows x) a None) ⊎ (get_or (floors_in nexts x) a None ≡ None)) (sym here.1)
        (subst (λ (listed : List (Option (List ℤ))). (get_or listed a None ≡ get_or (floors_in rows k) a None) ⊎ (get_or listed a None ≡ None)) become
        (subst (λ (listed : List (Option (List ℤ))). (floor_in next a ≡ get_or listed a None) ⊎ (floor_in next a ≡ None)) is (moves.floors a off)))
  ];
}

-- the row of one aircraft was written anew
pub all_set : (f g : List Bool) (rows : List FloorRowSeen) (k : ℕ) (row next : FloorRowSeen) → k < length rows → row ≡ get_or rows k no_row
    → MovesFloors f g row next → MovesAll f g rows (set rows k next)
all_set f g rows k row next lt is moves =
    all_of f g rows (set rows k next) k row next (ap (λ (r : FloorRowSeen). r.floors) is)
    (ap (λ (r : FloorRowSeen). r.floors) (sym (get_or-set_same rows k next no_row lt)))
    (λ j ne. ap (λ (r : FloorRowSeen). r.floors) (get_or-set_other rows k j next no_row ne)) moves
