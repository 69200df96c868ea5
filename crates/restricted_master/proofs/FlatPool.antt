-- A pool in flat lists, and one entry more. Every entry lies within the activities that were there, and what is put
-- behind them moves none of these, so each old entry is seen as before. The new entry begins where the activities
-- ended, so it is seen as the route that was put, and it comes last.
use Rattle.std.proofs.Common.{◌≡◌, ◌≢◌, ◌<◌, ◌≤◌, ◌+◌, ◌-◌, ◌^◌, ℕ, arith, refl, sym, ◌∙◌, ap, ap₂, subst, List, [], ◌∷◌, ◌++◌, length, get_or, take, drop, map}
use Rattle.std.specs.Prelude.{All, AllPairs, Contains, slice_range}
use Rattle.std.specs.List.{AllByRecursion}
use Rattle.std.proofs.lemmas.List.{drop-append-le, take-append-le, take_all, length-append, length-drop, map-append, get_or_default}
use Rattle.std.proofs.lemmas.List.Elements.{All-weaker, recursion_from_All, All-push}
use Rattle.std.proofs.lemmas.List.Quantifiers.{all_pairs_push}
use Rattle.branch_marks.specs.Pool.{Pooled}
use Rattle.restricted_master.specs.declared.entry.Entry.{Entry}
use Rattle.restricted_master.specs.Seen.{PoolSeen}
use Rattle.restricted_master.specs.inside.Flat.{IsFlat, IsHashed, LiesWithin, pool_of, pooled_in}
use Rattle.restricted_master.specs.inside.Hash.{hash_of}

-- what stands before the end of a list is not touched by what comes behind it
range_same : (xs ys : List ℕ) (from to : ℕ) → from ≤ to → to ≤ length xs → slice_range (xs ++ ys) from to ≡ slice_range xs from to
range_same xs ys from to order within =
    ap (take (to - from)) (drop-append-le from xs ys (omega (arith, order, within)))
    ∙ take-append-le (to - from) (drop from xs) ys (omega (arith, order, within, length-drop from xs))

-- and what is put behind it is the range from there on
range_new : (xs ys : List ℕ) (to : ℕ) → to ≡ length xs + length ys → slice_range (xs ++ ys) (length xs) to ≡ ys
range_new xs ys to is =
    ap (take (to - length xs)) (drop_front xs ys) ∙ take_all (to - length xs) ys (omega (arith, is))
  where
    drop_front : (us vs : List ℕ) → drop (length us) (us ++ vs) ≡ vs
    drop_front [] vs = refl
    drop_front (u ∷ us) vs = drop_front us vs

pub pooled_same : (activities more : List ℕ) (entry : Entry) → LiesWithin (length activities) entry → pooled_in (activities ++ more) entry ≡ pooled_in activities entry
pooled_same activities more entry lies =
    ap (λ (r : List ℕ). record { aircraft = entry.aircraft; route = r }) (range_same activities more entry.start entry.end lies.order lies.within)

map_same : (activities more : List ℕ) (entries : List Entry) → AllByRecursion (LiesWithin (length activities)) entries
    → map (pooled_in (activities ++ more)) entries ≡ map (pooled_in activities) entries
map_same activities more [] lie = refl
map_same activities more (e ∷ entries) lie = ap₂ (λ (p : Pooled) (ps : List Pooled). p ∷ ps) (pooled_same activities more e lie.0) (map_same activities more entries lie.1)

pub pooled_more : (activities more : List ℕ) (entries : List Entry) (entry : Entry) (pooled : Pooled) → All (LiesWithin (length activities)) entries
    → pooled_in (activities ++ more) entry ≡ pooled → map (pooled_in (activities ++ more)) (entries ++ entry ∷ []) ≡ map (pooled_in activities) entries ++ pooled ∷ []
pooled_more activities more entries entry pooled lie is =
    map-append (pooled_in (activities ++ more)) entries (entry ∷ [])
    ∙ ap₂ (λ (ps qs : List Pooled). ps ++ qs) (map_same activities more entries (recursion_from_All (LiesWithin (length activities)) entries lie)) (ap (λ (p : Pooled). p ∷ []) is)

module _ (activities route all : List ℕ) (entries more : List Entry) (start end k hash cost : ℕ) (flat : IsFlat activities entries)
    (all_is : all ≡ activities ++ route) (start_is : start ≡ length activities) (end_is : end ≡ length activities + length route)
    (hash_is : hash ≡ hash_of k route)
    (more_is : more ≡ entries ++ (record { start = start; end = end; aircraft = k; hash = hash; cost = cost }) ∷ []) where
  abbrev entry : Entry
  entry = record { start = start; end = end; aircraft = k; hash = hash; cost = cost }

  abbrev pair : Pooled
  pair = record { aircraft = k; route = route }

  route_is : slice_range all start end ≡ route
  route_is = ap₂ (λ (xs : List ℕ) (from : ℕ). slice_range xs from end) all_is start_is ∙ range_new activities route end end_is

  pair_is : pooled_in (activities ++ route) entry ≡ pair
  pair_is = ap (λ (xs : List ℕ). pooled_in xs entry) (sym all_is) ∙ ap (λ (r : List ℕ). record { aircraft = k; route = r }) route_is

  pairs_are : map (pooled_in all) more ≡ map (pooled_in activities) entries ++ pair ∷ []
  pairs_are = ap₂ (λ (xs : List ℕ) (es : List Entry). map (pooled_in xs) es) all_is more_is ∙ pooled_more activities route entries entry pair flat.within pair_is

  -- one entry more is seen behind the others
  pub put_seen : (seen : PoolSeen) → pool_of activities entries ≡ seen
      → pool_of all more ≡ record { entries = seen.entries ++ pair ∷ []; costs = seen.costs ++ cost ∷ [] }
  put_seen seen same =
      ap₂ (λ (ps : List Pooled) (cs : List ℕ). record { entries = ps; costs = cs }) pairs_are
      (ap (map (λ (e : Entry). e.cost)) more_is ∙ map-append (λ (e : Entry). e.cost) entries (entry ∷ []))
      ∙ ap (λ (s : PoolSeen). record { entries = s.entries ++ pair ∷ []; costs = s.costs ++ cost ∷ [] }) same

  size_is : length all ≡ length activities + length route
  size_is = ap length all_is ∙ length-append activities route

  lies_still : (e : Entry) → LiesWithin (length activities) e → LiesWithin (length all) e
  lies_still e lies = record { order = lies.order; within = omega (arith, lies.within, size_is) }

  -- and the pool keeps what it keeps
  pub put_flat : length entries < 2 ^ 32 → ¬ Contains (map (pooled_in activities) entries) pair → IsFlat all more
  put_flat few new = record {
    within = subst (λ (es : List Entry). All (LiesWithin (length all)) es) (sym more_is)
        (All-push (LiesWithin (length all)) entries entry
        (All-weaker (LiesWithin (length activities)) (LiesWithin (length all)) lies_still entries flat.within)
        (record { order = omega (arith, start_is, end_is); within = omega (arith, end_is, size_is) }));
    hashed = subst (λ (es : List Entry). All (IsHashed all) es) (sym more_is)
        (All-push (IsHashed all) entries entry
        (λ i d lt.
        let e : Entry = get_or entries i d in
        flat.hashed i d lt ∙ ap (hash_of e.aircraft)
        (sym (ap (λ (xs : List ℕ). slice_range xs e.start e.end) all_is ∙ range_same activities route e.start e.end (flat.within i d lt).order (flat.within i d lt).within)))
        (hash_is ∙ ap (hash_of k) (sym route_is)));
    few = omega (arith, few, ap length more_is, length-append entries (entry ∷ []));
    distinct = subst (λ (ps : List Pooled). AllPairs (λ (one other : Pooled). one ≢ other) ps) (sym pairs_are)
        (all_pairs_push (λ (one other : Pooled). one ≢ other) (map (pooled_in activities) entries) pair flat.distinct
        (λ i d lt same. new (i, lt, get_or_default (map (pooled_in activities) entries) i pair d lt ∙ same)));
  }
