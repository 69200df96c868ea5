-- Which numbers the list of an activity has: exactly those of the routes with it. So what is written there says of each route whether it has it.
use Rattle.std.proofs.Common.{◌≡◌, ◌<◌, ◌∙◌, ℕ, ap, refl, sym, subst, inl, inr, Bool, true, false, cond, List, length, get_or}
use Rattle.std.proofs.lemmas.Bool.{both_ways}
use Rattle.std.proofs.lemmas.List.{get_or_default}
use Rattle.std.specs.Prelude.{All, filter, if◌then◌else◌}
use Rattle.tail_book.specs.Numbers.{contains}
use Rattle.restricted_master.specs.Seen.{PoolSeen, RouteListsSeen}
use Rattle.restricted_master.specs.Lists.{has, in_order, list_at, AreListsOf}
use Rattle.restricted_master.specs.Pool.{aircraft_at}
use Rattle.fee_master.proofs.Members.{at_place, in_list, into_list, true_or_false}

module _ (pool : PoolSeen) (n m : ℕ) (lists : RouteListsSeen) (a : ℕ) (lists_of : AreListsOf pool n m lists) (of_book : a < n) where
  abbrev with_list : List ℕ
  with_list = list_at lists.by_activity a

  with_is : with_list ≡ filter (has pool a) (in_order pool m)
  with_is = lists_of.by_activity a of_book

  with_members : (i : ℕ) → contains with_list i ≡ true → (i < length pool.entries) × (has pool a i ≡ true)
  with_members i e = in_list pool m a i (subst (λ (xs : List ℕ). contains xs i ≡ true) with_is e)

  pub with_all : All (λ i. i < length pool.entries) with_list
  with_all p d lt = subst (λ (i : ℕ). i < length pool.entries) (sym (get_or_default with_list p d 0 lt)) (with_members (get_or with_list p 0) (at_place with_list p lt)).0

  pub with_has : (i : ℕ) → i < length pool.entries → aircraft_at pool i < m → contains with_list i ≡ has pool a i
  with_has i lt of_it = elim (true_or_false (has pool a i)) [
    | inl it ↦ subst (λ (xs : List ℕ). contains xs i ≡ true) (sym with_is) (into_list pool m a i lt of_it it) ∙ sym it
    | inr lacks ↦ elim (true_or_false (contains with_list i)) [
      | inl e ↦ absurd (both_ways (has pool a i) lacks (with_members i e).1)
      | inr e ↦ e ∙ sym lacks
    ]
  ]

once : (h : Bool) (old : ℕ) → old ≡ 0 → (if h then 1 else old) ≡ cond h 1 0
once true old none = refl
once false old none = none

-- what is written into a clear scratch
pub written : (c h : Bool) (old new : ℕ) → c ≡ h → old ≡ 0 → new ≡ (if c then 1 else old) → new ≡ cond h 1 0
written c h old new same none is = is ∙ ap (λ (b : Bool). if b then 1 else old) same ∙ once h old none

-- and cleared again
pub cleared : (c : Bool) (old new last : ℕ) → old ≡ 0 → new ≡ (if c then 1 else old) → last ≡ (if c then 0 else new) → last ≡ 0
cleared true old new last none is after = after
cleared false old new last none is after = after ∙ is ∙ none
