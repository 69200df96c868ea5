-- One node more in the order. Its place came first among those that were open, and was open itself; so it is in order beside each place
-- that was open, and beside the nodes that were counted before there is nothing to show. For these nothing changes: the places that it
-- opens were not there when they were counted, and its own place keeps its rank.
use Rattle.std.proofs.Common.{◌≡◌, ◌∙◌, ◌≤◌, ◌<◌, ◌+◌, inl, inr, ℕ, ℤ, true, false, List, [], ◌∷◌, ◌++◌, length, map, Option, Some, None, refl, sym, ap, subst, arith, append_assoc}
use Rattle.std.specs.Prelude.{All, Contains, ◌<ℤ◌}
use Rattle.std.proofs.lemmas.Int.{ints}
use Rattle.std.proofs.lemmas.Bool.{cases_order}
use Rattle.std.proofs.lemmas.List.{length-append}
use Rattle.std.proofs.lemmas.List.Elements.{All-nil, All-cons, All-head, All-tail, All-append, All-weaker, Contains-append_left, Contains-append_right, Contains-append_cases}
use Rattle.branch_marks.specs.Bound.{bound_of, Passes}
use Rattle.best_first.specs.declared.rank.Rank.{Rank}
use Rattle.best_first.specs.Rank.{IsBefore, IsOlder}
use Rattle.best_first.specs.Order.{Count, Standing, IsTakenBeside, IsTakenAmong, AreInOrder, number_of, numbers_of}
use Rattle.best_first.specs.inside.Slots.{IsPast, AreCountedSo}

-- the two parts of what holds of each
module _ {X : Type 0} (P : X → Type 0) where
  pub all_left : (xs ys : List X) → All P (xs ++ ys) → All P xs
  all_left [] ys all = All-nil P
  all_left (x ∷ xs) ys all = All-cons P x xs (All-head P x (xs ++ ys) all) (all_left xs ys (All-tail P x (xs ++ ys) all))

  pub all_right : (xs ys : List X) → All P (xs ++ ys) → All P ys
  all_right [] ys all = all
  all_right (x ∷ xs) ys all = all_right xs ys (All-tail P x (xs ++ ys) all)

different : true ≡ false → ⊥
different same = cc

-- no place comes before itself
pub before_none : (rank : Rank) → ¬ IsBefore rank rank
before_none rank (inl less) = omega (arith, ints, less)
before_none rank (inr (same, inl less)) = omega (arith, less)
before_none rank (inr (same, inr both)) = different (sym both.2 ∙ both.1)

-- what comes before one that comes before a third comes before that
older_chain : (one middle other : Rank) → IsOlder one middle → IsOlder middle other → IsOlder one other
older_chain one middle other (inl less) (inl more) = inl (omega (arith, less, more))
older_chain one middle other (inl less) (inr both) = inl (omega (arith, less, both.0))
older_chain one middle other (inr both) (inl more) = inl (omega (arith, both.0, more))
older_chain one middle other (inr both) (inr second) = absurd (different (sym both.2 ∙ second.1))

pub before_chain : (one middle other : Rank) → IsBefore one middle → IsBefore middle other → IsBefore one other
before_chain one middle other (inl less) (inl more) = inl (omega (arith, ints, less, more))
before_chain one middle other (inl less) (inr (same, older)) = inl (subst (λ (z : ℤ). one.bound <ℤ z) same less)
before_chain one middle other (inr (same, older)) (inl more) = inl (subst (λ (z : ℤ). z <ℤ other.bound) (sym same) more)
before_chain one middle other (inr (same, older)) (inr (also, second)) = inr (same ∙ also, older_chain one middle other older second)

pub numbers_then : (one other : List Standing) → numbers_of (one ++ other) ≡ numbers_of one ++ numbers_of other
unfolding numbers_of
numbers_then [] other = refl
numbers_then (x ∷ one) other =
    ap (λ (ns : List ℕ). number_of x.counted ++ ns) (numbers_then one other) ∙ sym (append_assoc (number_of x.counted) (numbers_of one) (numbers_of other))

-- places that were opened, and at which no node was counted
abbrev pub opened_places : List Rank → List Standing
opened_places ranks = map (λ (rank : Rank). record { rank = rank; counted = None }) ranks

no_numbers : (ranks : List Rank) → numbers_of (opened_places ranks) ≡ []
unfolding numbers_of
no_numbers [] = refl
no_numbers (rank ∷ ranks) = no_numbers ranks

numbers_head : (one : Standing) (others : List Standing) → numbers_of (one ∷ others) ≡ number_of one.counted ++ numbers_of others
unfolding numbers_of
numbers_head one others = refl

module _ (n target next : ℕ) (lower : next ≤ target) (rank : Rank) (ranks : List Rank) (later : All (λ (r : Rank). r.since ≡ n + 1) ranks)
    (room : 1 ≤ n → ¬ Passes (bound_of rank.bound) target) (before behind : List Standing) where
  abbrev place : Standing
  place = record { rank = rank; counted = None }

  abbrev node : Standing
  node = record { rank = rank; counted = Some (record { number = n; target = next }) }

  abbrev old : List Standing
  old = before ++ place ∷ behind

  abbrev new : List Standing
  new = before ++ ((node ∷ opened_places ranks) ++ behind)

  -- what holds of the others, of the node, and of what it opens
  all_new : (P : Standing → Type 0) → All P before → All P behind → P node → All P (opened_places ranks) → All P new
  all_new P one two three four =
      All-append P before ((node ∷ opened_places ranks) ++ behind) one
      (All-append P (node ∷ opened_places ranks) behind (All-cons P node (opened_places ranks) three four) two)

  all_opened : (P : Standing → Type 0) → ((r : Rank) → r.since ≡ n + 1 → P (record { rank = r; counted = None })) → (rs : List Rank)
      → All (λ (r : Rank). r.since ≡ n + 1) rs → All P (opened_places rs)
  all_opened P each [] all = All-nil P
  all_opened P each (r ∷ rs) all =
      let S = λ (s : Rank). s.since ≡ n + 1 in
      All-cons P (record { rank = r; counted = None }) (opened_places rs) (each r (All-head S r rs all)) (all_opened P each rs (All-tail S r rs all))

  module _ (r : Rank) (c : Count) (past : IsPast n target r (Some c)) where
    beside_node : IsTakenBeside r c place → IsTakenBeside r c node
    beside_node was = record {
      first = λ is_open. was.first (is_open.0, tt);
      leaves = (
        (λ less. omega (arith, lower, past.1)),
        (λ is passes. room (omega (arith, past.0)) (subst (λ (t : ℕ). Passes (bound_of rank.bound) t) (past.2 (sym is)) passes)),
      );
    }

    beside_opened : (o : Rank) → o.since ≡ n + 1 → IsTakenBeside r c (record { rank = o; counted = None })
    beside_opened o is = record { first = λ is_open. absurd (omega (arith, is, is_open.0, past.0)); leaves = tt }

    among_new : All (IsTakenBeside r c) old → All (IsTakenBeside r c) new
    among_new was =
        let P = IsTakenBeside r c in
        let right = all_right P before (place ∷ behind) was in
        all_new P (all_left P before (place ∷ behind) was) (All-tail P place behind right) (beside_node (All-head P place behind right))
        (all_opened P beside_opened ranks later)

  still_taken : (r : Rank) (c : Option Count) → IsPast n target r c → IsTakenAmong old r c → IsTakenAmong new r c
  still_taken r None past was = tt
  still_taken r (Some c) past was = (was.0, among_new r c past was.1)

  module _ (since : rank.since ≤ n) where
    abbrev IsBehind : Standing → Type 0
    IsBehind one = one.counted ≡ None → ¬ IsBefore one.rank rank

    node_beside : (r : Rank) (c : Option Count) → IsPast n target r c → (c ≡ None → ¬ IsBefore r rank)
        → IsTakenBeside rank (record { number = n; target = next }) (record { rank = r; counted = c })
    node_beside r None past first = record { first = λ is_open. first refl; leaves = tt }
    node_beside r (Some c) past first = record {
      first = λ is_open. absurd (omega (arith, past.0, is_open.1));
      leaves = ((λ less. absurd (omega (arith, past.0, less))), (λ is. absurd (omega (arith, past.0, is))));
    }

    node_beside_itself : IsTakenBeside rank (record { number = n; target = next }) node
    node_beside_itself = record {
      first = λ is_open. before_none rank;
      leaves = ((λ less. omega arith), (λ is. absurd (omega (arith, is))));
    }

    node_beside_opened : (o : Rank) → o.since ≡ n + 1 → IsTakenBeside rank (record { number = n; target = next }) (record { rank = o; counted = None })
    node_beside_opened o is = record { first = λ is_open. absurd (omega (arith, is, is_open.0)); leaves = tt }

    all_beside : (ones : List Standing) → All (λ (one : Standing). IsPast n target one.rank one.counted) ones → All IsBehind ones
        → All (IsTakenBeside rank (record { number = n; target = next })) ones
    all_beside [] past first = All-nil (IsTakenBeside rank (record { number = n; target = next }))
    all_beside (one ∷ ones) past first =
        let Q = λ (s : Standing). IsPast n target s.rank s.counted in
        All-cons (IsTakenBeside rank (record { number = n; target = next })) one ones (node_beside one.rank one.counted (All-head Q one ones past) (All-head IsBehind one ones first))
        (all_beside ones (All-tail Q one ones past) (All-tail IsBehind one ones first))

    all_still : (ones : List Standing) → All (λ (one : Standing). IsPast n target one.rank one.counted) ones
        → All (λ (one : Standing). IsTakenAmong old one.rank one.counted) ones → All (λ (one : Standing). IsTakenAmong new one.rank one.counted) ones
    all_still [] past was = All-nil (λ (s : Standing). IsTakenAmong new s.rank s.counted)
    all_still (one ∷ ones) past was =
        let Q = λ (s : Standing). IsPast n target s.rank s.counted in let R = λ (s : Standing). IsTakenAmong old s.rank s.counted in
        All-cons (λ (s : Standing). IsTakenAmong new s.rank s.counted) one ones (still_taken one.rank one.counted (All-head Q one ones past) (All-head R one ones was))
        (all_still ones (All-tail Q one ones past) (All-tail R one ones was))

    past_later : (r : Rank) (c : Option Count) → IsPast n target r c → IsPast (n + 1) next r c
    past_later r None past = omega (arith, past)
    past_later r (Some c) past = (omega (arith, past.0), omega (arith, past.1, lower), λ is. absurd (omega (arith, past.0, is)))

    module _ (are : AreCountedSo n target old) (first : All IsBehind old) where
      past_before : All (λ (one : Standing). IsPast n target one.rank one.counted) before
      past_before = all_left (λ (one : Standing). IsPast n target one.rank one.counted) before (place ∷ behind) are.past

      past_behind : All (λ (one : Standing). IsPast n target one.rank one.counted) behind
      past_behind = All-tail (λ (one : Standing). IsPast n target one.rank one.counted) place behind
          (all_right (λ (one : Standing). IsPast n target one.rank one.counted) before (place ∷ behind) are.past)

      first_before : All IsBehind before
      first_before = all_left IsBehind before (place ∷ behind) first

      first_behind : All IsBehind behind
      first_behind = All-tail IsBehind place behind (all_right IsBehind before (place ∷ behind) first)

      ordered_new : AreInOrder new
      ordered_new =
          let T = λ (one : Standing). IsTakenAmong old one.rank one.counted in let N = λ (one : Standing). IsTakenAmong new one.rank one.counted in
          let left = all_left T before (place ∷ behind) are.ordered in
          let right = All-tail T place behind (all_right T before (place ∷ behind) are.ordered) in
          let beside = all_new (IsTakenBeside rank (record { number = n; target = next })) (all_beside before past_before first_before)
          (all_beside behind past_behind first_behind) node_beside_itself (all_opened (IsTakenBeside rank (record { number = n; target = next })) node_beside_opened ranks later) in
          all_new N (all_still before past_before left) (all_still behind past_behind right) (since, beside) (all_opened N (λ r is. tt) ranks later)

      past_new : All (λ (one : Standing). IsPast (n + 1) next one.rank one.counted) new
      past_new =
          let Q = λ (one : Standing). IsPast n target one.rank one.counted in let N = λ (one : Standing). IsPast (n + 1) next one.rank one.counted in
          all_new N (All-weaker Q N (λ one past. past_later one.rank one.counted past) before past_before)
          (All-weaker Q N (λ one past. past_later one.rank one.counted past) behind past_behind) (omega arith, omega arith, λ is. refl)
          (all_opened N (λ r is. omega (arith, is)) ranks later)

      numbers_old : numbers_of old ≡ numbers_of before ++ numbers_of behind
      numbers_old = numbers_then before (place ∷ behind) ∙ ap (λ (ns : List ℕ). numbers_of before ++ ns) (numbers_head place behind)

      numbers_new : numbers_of new ≡ numbers_of before ++ n ∷ numbers_of behind
      numbers_new =
          numbers_then before ((node ∷ opened_places ranks) ++ behind)
          ∙ ap (λ (ns : List ℕ). numbers_of before ++ ns)
          (numbers_head node (opened_places ranks ++ behind)
          ∙ ap (λ (ns : List ℕ). n ∷ ns) (numbers_then (opened_places ranks) behind ∙ ap (λ (ns : List ℕ). ns ++ numbers_of behind) (no_numbers ranks)))

      count_new : length (numbers_of new) ≡ n + 1
      count_new =
          let one = length-append (numbers_of before) (n ∷ numbers_of behind) in let two = length-append (numbers_of before) (numbers_of behind) in
          let was : length (numbers_of before ++ numbers_of behind) ≡ n = ap (λ (ns : List ℕ). length ns) (sym numbers_old) ∙ are.count in
          let is : length (numbers_of new) ≡ length (numbers_of before ++ n ∷ numbers_of behind) = ap (λ (ns : List ℕ). length ns) numbers_new in
          omega (arith, one, two, was, is)

      with_more : (i : ℕ) → Contains (numbers_of before ++ numbers_of behind) i → Contains (numbers_of before ++ n ∷ numbers_of behind) i
      with_more i has = elim (Contains-append_cases (numbers_of before) (numbers_of behind) i has) [
        | inl there ↦ Contains-append_left (numbers_of before) (n ∷ numbers_of behind) i there
        | inr there ↦ Contains-append_right (numbers_of before) (n ∷ numbers_of behind) i (Contains-append_right (n ∷ []) (numbers_of behind) i there)
      ]

      its_own : Contains (numbers_of before ++ n ∷ numbers_of behind) n
      its_own = Contains-append_right (numbers_of before) (n ∷ numbers_of behind) n (0, omega arith, refl)

      each_new : (i : ℕ) → i < n + 1 → Contains (numbers_of new) i
      each_new i less = subst (λ (ns : List ℕ). Contains ns i) (sym numbers_new) (elim (cases_order i n) [
        | inl same ↦ subst (λ (j : ℕ). Contains (numbers_of before ++ n ∷ numbers_of behind) j) (sym same) its_own
        | inr o ↦ elim o [
          | inl under ↦ with_more i (subst (λ (ns : List ℕ). Contains ns i) numbers_old (are.each i under))
          | inr over ↦ absurd (omega (arith, less, over))
        ]
      ])

      pub one_more : AreCountedSo (n + 1) next new
      one_more = record { ordered = ordered_new; past = past_new; count = count_new; each = each_new }
