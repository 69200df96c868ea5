-- The items of a carry field, one by one: what is left decides.
--
-- The definition goes on from the items that were passed, the values so far and the items that are left, and a turn of
-- the loop moves one item across. An unknown counter, or one that a passed item names, ends both at the same item.
use Rattle.std.proofs.Common.{◌≡◌, ◌∙◌, ◌<◌, ◌≤◌, ℕ, ◌+◌, ℤ, true, false, List, [], ◌∷◌, ◌++◌, Result, Ok, Err, length, get_or, take, drop, slice_set, refl, ap}
use Rattle.std.proofs.lemmas.List.{drop_all, drop_more, take_more}
use Rattle.tail_text.specs.declared.codes.TheConstants.{TWICE}
use Rattle.fleet_rules.specs.declared.tail.RawCarry.{RawCarry}
use Rattle.book_maker.specs.NameNumbers.{number_in}
use Rattle.book_maker.specs.CarryFound.{carry_from, is_named}

module _ (counters : List (List ℕ)) (items : List RawCarry) (i : ℕ) (values : List ℤ) (all : Result (List ℤ) ℕ)
    (known : all ≡ carry_from counters (take i items) values (drop i items)) where
  module _ (item : RawCarry) (within : i < length items) (here : item ≡ get_or items i item) where
    ahead : drop i items ≡ item ∷ drop (i + 1) items
    ahead = drop_more items i item within ∙ rw (← here) refl

    behind : take (i + 1) items ≡ take i items ++ item ∷ []
    behind = take_more items i item within ∙ rw (← here) refl

    next : all ≡ carry_from counters (take i items) values (item ∷ drop (i + 1) items)
    next = known ∙ ap (carry_from counters (take i items) values) ahead

    -- an unknown counter decides
    pub carry-unknown : (code : ℕ) → Err code ≡ number_in counters item.counter → all ≡ Err code
    unfolding carry_from
    carry-unknown code e = next ∙ rw (← e) refl

    -- and so does one that an earlier item names
    pub carry-twice : (c : ℕ) → Ok c ≡ number_in counters item.counter → is_named (take i items) item.counter ≡ true → all ≡ Err TWICE
    unfolding carry_from
    carry-twice c e named = next ∙ rw (← e, named) refl

    -- a value is set
    pub carry-set : (c : ℕ) → Ok c ≡ number_in counters item.counter → is_named (take i items) item.counter ≡ false
        → all ≡ carry_from counters (take (i + 1) items) (slice_set values c item.value) (drop (i + 1) items)
    unfolding carry_from
    carry-set c e new = next ∙ rw (← e, new, behind) refl

  -- behind the last item all are set
  pub carry-end : length items ≤ i → all ≡ Ok values
  unfolding carry_from
  carry-end h = known ∙ ap (carry_from counters (take i items) values) (drop_all i items h)
