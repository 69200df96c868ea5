-- Numbers of routes in the lists of their hashes. A number that is put into one list stays in it and leaves the other
-- lists as they are, so by induction on the routes each listed one is in its own list. What equals a listed route has
-- its hash and thus its list: so a route that is at no number of its list is none of the listed ones.
use Rattle.std.proofs.Common.{◌≡◌, ◌≢◌, ◌<◌, ◌≤◌, ◌+◌, ◌%◌, ℕ, arith, sym, ◌∙◌, ap, ap₂, subst, inl, inr, List, [], ◌∷◌, ◌++◌, length, get_or, set}
use Rattle.std.specs.Prelude.{Contains}
use Rattle.std.proofs.lemmas.Bool.{cases_eq}
use Rattle.std.proofs.lemmas.List.{length-append, length-set, get_or_default, get_or_append_left, get_or-set_same, get_or-set_other}
use Rattle.std.proofs.lemmas.List.Elements.{Contains-append_left, Contains-push}
use Rattle.branch_marks.specs.Pool.{Pooled}
use Rattle.restricted_master.specs.Seen.{PoolSeen}
use Rattle.restricted_master.specs.Lists.{list_at}
use Rattle.restricted_master.specs.Pool.{entry_at}
use Rattle.restricted_master.specs.declared.index.TheConstants.{LISTS}
use Rattle.restricted_master.specs.inside.Hash.{hash_of}
use Rattle.restricted_master.specs.inside.Index.{IsIndexed, list_of}

mod_below : (n : ℕ) → n % LISTS < LISTS
mod_below n = omega arith

-- one route more is listed
pub list_more : (pool : PoolSeen) (lists later : List (List ℕ)) (listed at : ℕ) → IsIndexed pool lists listed → listed < length pool.entries
    → at ≡ list_of pool listed → later ≡ set lists at (list_at lists at ++ listed ∷ []) → IsIndexed pool later (listed + 1)
list_more pool lists later listed at indexed below at_is same = record {
  each = ap length same ∙ length-set lists at (list_at lists at ++ listed ∷ []) ∙ indexed.each;
  within = omega (arith, below);
  own = own;
}
  where
    here : at < length lists
    here = omega (arith, at_is, mod_below (hash_of (entry_at pool listed).aircraft (entry_at pool listed).route), indexed.each)

    grown : (j i : ℕ) → Contains (list_at lists j) i → Contains (list_at later j) i
    grown j i has = elim (cases_eq j at) [
      | inl e ↦
          subst (λ (xs : List ℕ). Contains xs i) (sym (ap₂ list_at same e ∙ get_or-set_same lists at (list_at lists at ++ listed ∷ []) [] here))
          (Contains-append_left (list_at lists at) (listed ∷ []) i (subst (λ (k : ℕ). Contains (list_at lists k) i) e has))
      | inr ne ↦
          subst (λ (xs : List ℕ). Contains xs i) (sym (ap (λ (ls : List (List ℕ)). list_at ls j) same ∙ get_or-set_other lists at j (list_at lists at ++ listed ∷ []) [] ne)) has
    ]

    new : Contains (list_at later (list_of pool listed)) listed
    new = subst (λ (xs : List ℕ). Contains xs listed)
        (sym (ap₂ list_at same (sym at_is) ∙ get_or-set_same lists at (list_at lists at ++ listed ∷ []) [] here))
        (Contains-push (list_at lists at) listed)

    own : (i : ℕ) → i < listed + 1 → Contains (list_at later (list_of pool i)) i
    own i lt = elim (cases_eq i listed) [
      | inl e ↦ subst (λ (k : ℕ). Contains (list_at later (list_of pool k)) k) (sym e) new
      | inr ne ↦ grown (list_of pool i) i (indexed.own i (omega (arith, lt, ne)))
    ]

-- a route that comes behind the others leaves them in their lists
pub put_indexed : (entries : List Pooled) (costs more_costs : List ℕ) (pair : Pooled) (lists : List (List ℕ)) (listed : ℕ)
    → IsIndexed (record { entries = entries; costs = costs }) lists listed
    → IsIndexed (record { entries = entries ++ pair ∷ []; costs = more_costs }) lists listed
put_indexed entries costs more_costs pair lists listed indexed = record {
  each = indexed.each;
  within = omega (arith, indexed.within, length-append entries (pair ∷ []));
  own = λ i lt.
      subst (λ (e : Pooled). Contains (list_at lists (hash_of e.aircraft e.route % LISTS)) i)
      (sym (get_or_append_left entries (pair ∷ []) (record { aircraft = 0; route = [] }) i (omega (arith, lt, indexed.within))))
      (indexed.own i lt);
}

-- no list has to have a number of a route
pub none_indexed : (pool : PoolSeen) (lists : List (List ℕ)) → length lists ≡ LISTS → IsIndexed pool lists 0
none_indexed pool lists each = record {
  each = each;
  within = omega arith;
  own = λ i lt. absurd (omega (arith, lt));
}

-- what is in none of the numbers of its list is no listed route
pub not_listed : (pool : PoolSeen) (lists : List (List ℕ)) (listed : ℕ) (pair : Pooled) (numbers : List ℕ) (q : ℕ) → IsIndexed pool lists listed
    → numbers ≡ list_at lists (hash_of pair.aircraft pair.route % LISTS) → length numbers ≤ q
    → ((p : ℕ) → p < q → get_or numbers p 0 < length pool.entries → entry_at pool (get_or numbers p 0) ≢ pair)
    → (j : ℕ) → j < listed → entry_at pool j ≢ pair
not_listed pool lists listed pair numbers q indexed numbers_are all none j below = λ is.
    let own = subst (λ (e : Pooled). Contains (list_at lists (hash_of e.aircraft e.route % LISTS)) j) is (indexed.own j below) in
    let has = subst (λ (xs : List ℕ). Contains xs j) (sym numbers_are) own in
    let read = get_or_default numbers has.0 0 j has.1 ∙ has.2 in
    none has.0 (omega (arith, has.1, all)) (omega (arith, read, below, indexed.within)) (subst (λ (k : ℕ). entry_at pool k ≡ pair) (sym read) is)

-- and what is no route at all is not there
pub not_there : (pool : PoolSeen) (pair : Pooled) (i : ℕ) → length pool.entries ≤ i → ((j : ℕ) → j < i → entry_at pool j ≢ pair) → ¬ Contains pool.entries pair
not_there pool pair i all none = λ has.
    none has.0 (omega (arith, has.1, all)) (get_or_default pool.entries has.0 (record { aircraft = 0; route = [] }) pair has.1 ∙ has.2)
