-- Which numbers the list of an aircraft has: exactly those of its routes, and each list of an activity those that have it.
use Rattle.std.proofs.Common.{◌≡◌, ◌<◌, ℕ, sym, subst, true, List, length, get_or, arith}
use Rattle.std.proofs.lemmas.List.{get_or_default}
use Rattle.std.specs.Prelude.{All}
use Rattle.tail_book.specs.Numbers.{contains}
use Rattle.restricted_master.specs.Seen.{PoolSeen, RouteListsSeen}
use Rattle.restricted_master.specs.Lists.{is_of, list_at, numbers_of, AreListsOf}
use Rattle.fee_master.proofs.Members.{at_place, in_numbers, into_numbers, place_of}

-- the list of an aircraft has exactly its routes
module _ (pool : PoolSeen) (n m : ℕ) (lists : RouteListsSeen) (k : ℕ) (lists_of : AreListsOf pool n m lists) (of_book : k < m) where
  abbrev own_list : List ℕ
  own_list = list_at lists.by_aircraft k

  own_is : own_list ≡ numbers_of pool k
  own_is = lists_of.by_aircraft k of_book

  pub own_members : (p : ℕ) → p < length own_list → (get_or own_list p 0 < length pool.entries) × (is_of pool k (get_or own_list p 0) ≡ true)
  own_members p below =
      in_numbers pool k (get_or own_list p 0) (subst (λ (xs : List ℕ). contains xs (get_or own_list p 0) ≡ true) own_is (at_place own_list p below))

  pub own_places : (i : ℕ) → i < length pool.entries → is_of pool k i ≡ true → (p : ℕ) × (p < length own_list) × (get_or own_list p 0 ≡ i)
  own_places i lt pass = place_of own_list i (subst (λ (xs : List ℕ). contains xs i ≡ true) (sym own_is) (into_numbers pool k i lt pass))

  pub own_all : All (λ i. i < length pool.entries) own_list
  own_all p d lt = subst (λ (i : ℕ). i < length pool.entries) (sym (get_or_default own_list p d 0 lt)) (own_members p lt).0

  -- and there is one where the aircraft has a route
  pub own_some : (i : ℕ) → i < length pool.entries → is_of pool k i ≡ true → 0 < length own_list
  own_some i lt pass = let (p, below, is) = own_places i lt pass in omega (arith, below)
