-- A row that enters a store: what is said of every store holds with it too, and what was covered stays covered.
-- The one case that is work is the bucket of the row's node. What stays there is not covered by the new row, and covers it
-- no more than before; and what leaves is covered by the new row, which then covers all that it covered.
use Rattle.std.proofs.Common.{◌≡◌, ◌≢◌, ℕ, ℤ, ◌+◌, ◌<◌, ◌≤◌, ◌^◌, arith, refl, true, false, Bool, inl, inr, List, [], ◌∷◌, ◌++◌, length, get_or, sym, ◌∙◌, ap, subst, get_or-set_other}
use Rattle.std.specs.Prelude.{All, IfSome, None, not, Option, ◌⊎◌}
use Rattle.std.specs.List.{Contains, filter}
use Rattle.std.proofs.lemmas.Bool.{cases_lt}
use Rattle.std.proofs.lemmas.List.{length-set, length-append, get_or_append_left, get_or-set_same, get_or_past}
use Rattle.std.proofs.Math.Seq.{get_or-append_seam}
use Rattle.std.proofs.lemmas.List.Elements.{All-push, All-filter, All-weaker, All-contains, All-contains_itself, filter_passes, Contains-append_left, Contains-push}
use Rattle.tail_book.specs.CounterOrder.{EachAtMost, each_at_most}
use Rattle.tail_book.specs.inside.Order.{EachAtMostDecides, EachAtMostItself, EachAtMostChains}
use Rattle.label_store.specs.Seen.{StoreSeen}
use Rattle.label_store.specs.Buckets.{row_at, IsCovered, stays_beside, bucket_with, AreApart, EachApart}
use Rattle.label_store.specs.Store.{parent_of, bucket_of, IsRowOf, IsStore, with_row}
use Rattle.label_store.proofs.Packing.{same_or_not}
use Rattle.label_store.proofs.Buckets.{both, apart_filter, apart_push, apart_longer, row_before, filter_has}

-- a test holds, or not
true_or_not : (b : Bool) → (b ≡ true) ⊎ (b ≡ false)
true_or_not true = inl refl
true_or_not false = inr refl

-- where there is no node there is no bucket
nothing_past : (store : StoreSeen) (v j : ℕ) → length store.buckets ≤ v → ¬ Contains (bucket_of store v) j
nothing_past store v j past has =
    let none : bucket_of store v ≡ [] = get_or_past store.buckets v [] past in
    let in_none : Contains [] j = subst (λ b. Contains b j) none has in
    absurd (omega (arith, in_none.1))

-- what stays beside a row is not covered by it
pub not_covered : EachAtMostDecides → (rows : List (List ℤ)) (row : List ℤ) (j : ℕ) → stays_beside rows row j ≡ true → ¬ EachAtMost row (row_at rows j)
not_covered decides rows row j stays covers =
    let yields : not true ≡ true = ap not (sym ((decides row (row_at rows j)).1 covers)) ∙ stays in
    absurd (cc)

module _ (store : StoreSeen) (node : ℕ) (parent : Option ℕ) (row : List ℤ) (sound : IsStore store) where
  -- the new row's values, parent and node
  pub new_values : row_at (store.rows ++ row ∷ []) (length store.rows) ≡ row
  new_values = get_or-append_seam store.rows row [] []

  pub new_parent : get_or (store.parents ++ parent ∷ []) (length store.rows) None ≡ parent
  new_parent = ap (λ i. get_or (store.parents ++ parent ∷ []) i None) (sym sound.each_parent) ∙ get_or-append_seam store.parents parent [] None

  pub new_node : get_or (store.nodes ++ node ∷ []) (length store.rows) 0 ≡ node
  new_node = ap (λ i. get_or (store.nodes ++ node ∷ []) i 0) (sym sound.each_node) ∙ get_or-append_seam store.nodes node [] 0

  -- one row, one parent, one node more, and as many buckets
  more : length (store.rows ++ row ∷ []) ≡ length store.rows + 1
  more = length-append store.rows (row ∷ [])

  more_parents : length (store.parents ++ parent ∷ []) ≡ length store.parents + 1
  more_parents = length-append store.parents (parent ∷ [])

  more_nodes : length (store.nodes ++ node ∷ []) ≡ length store.nodes + 1
  more_nodes = length-append store.nodes (node ∷ [])

  same_buckets : length (with_row store node parent row).buckets ≡ length store.buckets
  same_buckets = length-set store.buckets node (bucket_with store.rows (bucket_of store node) row (length store.rows))

  -- the bucket of another node is as it was, and that of the node has the row
  other_bucket : (v : ℕ) → v ≢ node → bucket_of (with_row store node parent row) v ≡ bucket_of store v
  other_bucket v other = get_or-set_other store.buckets node v (bucket_with store.rows (bucket_of store node) row (length store.rows)) [] other

  own_bucket : node < length store.buckets
      → bucket_of (with_row store node parent row) node ≡ bucket_with store.rows (bucket_of store node) row (length store.rows)
  own_bucket place = get_or-set_same store.buckets node (bucket_with store.rows (bucket_of store node) row (length store.rows)) [] place

  -- a row that came from one kept before
  still_below : IfSome parent (λ j. j < length store.rows) → (i : ℕ) → i < length (store.rows ++ row ∷ [])
      → IfSome (parent_of (with_row store node parent row) i) (λ j. j < i)
  still_below from i below = elim (cases_lt i (length store.rows)) [
    | inl less ↦
        let before : i < length store.parents = omega (arith, less, sound.each_parent) in
        subst (λ p. IfSome p (λ j. j < i)) (sym (get_or_append_left store.parents (parent ∷ []) None i before)) (sound.below i less)
    | inr least ↦
        let last : length store.rows ≡ i = omega (arith, below, least, more) in
        subst (λ m. IfSome (parent_of (with_row store node parent row) m) (λ j. j < m)) last
        (subst (λ p. IfSome p (λ j. j < length store.rows)) (sym new_parent) from)
  ]

  -- a number of a row is one still
  still_row : (v j : ℕ) → IsRowOf store v j → IsRowOf (with_row store node parent row) v j
  still_row v j is =
      let before : j < length store.nodes = omega (arith, is.kept, sound.each_node) in
      record {
        kept = omega (arith, is.kept, more);
        place = get_or_append_left store.nodes (node ∷ []) 0 j before ∙ is.place;
      }

  kept_in : (v : ℕ) → v < length store.buckets → All (λ j. j < length store.rows) (bucket_of store v)
  kept_in v below = All-weaker (IsRowOf store v) (λ j. j < length store.rows) (λ j is. is.kept) (bucket_of store v) (sound.numbers v below)

  -- what stays in the bucket of the node
  abbrev stays : ℕ → Bool
  stays = stays_beside store.rows row

  still_numbers : node < length store.buckets → (v : ℕ) → v < length (with_row store node parent row).buckets
      → All (IsRowOf (with_row store node parent row) v) (bucket_of (with_row store node parent row) v)
  still_numbers place v below =
      let inside : v < length store.buckets = omega (arith, below, same_buckets) in
      let before : All (IsRowOf (with_row store node parent row) v) (bucket_of store v) =
      All-weaker (IsRowOf store v) (IsRowOf (with_row store node parent row) v) (still_row v) (bucket_of store v) (sound.numbers v inside) in
      elim (same_or_not v node) [
        | inl same ↦
            let at_node = subst (λ m. All (IsRowOf (with_row store node parent row) m) (bucket_of store m)) same before in
            let entered : IsRowOf (with_row store node parent row) node (length store.rows) = record { kept = omega (arith, more); place = new_node } in
            subst (λ m. All (IsRowOf (with_row store node parent row) m) (bucket_of (with_row store node parent row) m)) (sym same)
            (subst (All (IsRowOf (with_row store node parent row) node)) (sym (own_bucket place))
            (All-push (IsRowOf (with_row store node parent row) node) (filter stays (bucket_of store node)) (length store.rows)
            (All-filter stays (IsRowOf (with_row store node parent row) node) (bucket_of store node) at_node) entered))
        | inr other ↦ subst (All (IsRowOf (with_row store node parent row) v)) (sym (other_bucket v other)) before
      ]

  -- what stays neither covers the new row nor is covered by it
  apart_from_new : EachAtMostDecides → node < length store.buckets → ¬ IsCovered store.rows (bucket_of store node) row
      → All (λ j. AreApart (row_at (store.rows ++ row ∷ []) j) (row_at (store.rows ++ row ∷ []) (length store.rows))) (filter stays (bucket_of store node))
  apart_from_new decides place alone =
      All-weaker (λ j. (Contains (bucket_of store node) j × (stays j ≡ true)) × (j < length store.rows))
      (λ j. AreApart (row_at (store.rows ++ row ∷ []) j) (row_at (store.rows ++ row ∷ []) (length store.rows)))
      (λ j known.
      let here : row_at (store.rows ++ row ∷ []) j ≡ row_at store.rows j = row_before store.rows row j known.1 in
      subst (λ r. AreApart r (row_at (store.rows ++ row ∷ []) (length store.rows))) (sym here)
      (subst (λ r. AreApart (row_at store.rows j) r) (sym new_values)
      (record { here = λ covers. alone (j, (known.0.0, covers)); there = not_covered decides store.rows row j known.0.1 })))
      (filter stays (bucket_of store node))
      (both (λ j. Contains (bucket_of store node) j × (stays j ≡ true)) (λ j. j < length store.rows) (filter stays (bucket_of store node))
      (both (Contains (bucket_of store node)) (λ j. stays j ≡ true) (filter stays (bucket_of store node))
      (All-filter stays (Contains (bucket_of store node)) (bucket_of store node) (All-contains_itself (bucket_of store node)))
      (filter_passes stays (bucket_of store node)))
      (All-filter stays (λ j. j < length store.rows) (bucket_of store node) (kept_in node place)))

  still_apart : EachAtMostDecides → node < length store.buckets → ¬ IsCovered store.rows (bucket_of store node) row
      → (v : ℕ) → v < length (with_row store node parent row).buckets → EachApart (store.rows ++ row ∷ []) (bucket_of (with_row store node parent row) v)
  still_apart decides place alone v below =
      let inside : v < length store.buckets = omega (arith, below, same_buckets) in
      elim (same_or_not v node) [
        | inl same ↦
            subst (λ m. EachApart (store.rows ++ row ∷ []) (bucket_of (with_row store node parent row) m)) (sym same)
            (subst (EachApart (store.rows ++ row ∷ [])) (sym (own_bucket place))
            (apart_push (store.rows ++ row ∷ []) (filter stays (bucket_of store node)) (length store.rows)
            (apart_filter stays (store.rows ++ row ∷ []) (bucket_of store node)
            (apart_longer store.rows row (bucket_of store node) (kept_in node place) (sound.apart node place)))
            (apart_from_new decides place alone)))
        | inr other ↦
            subst (EachApart (store.rows ++ row ∷ [])) (sym (other_bucket v other))
            (apart_longer store.rows row (bucket_of store v) (kept_in v inside) (sound.apart v inside))
      ]

  -- what is said of every store
  pub still_store : EachAtMostDecides → node < length store.buckets → IfSome parent (λ j. j < length store.rows) → length row ≡ store.width
      → length store.rows < 2 ^ 32 → ¬ IsCovered store.rows (bucket_of store node) row → IsStore (with_row store node parent row)
  still_store decides place from wide room alone =
      let inside : node < length (with_row store node parent row).buckets = omega (arith, place, same_buckets) in
      record {
        some = sound.some;
        wide = All-push (λ r. length r ≡ store.width) store.rows row sound.wide wide;
        each_parent = more_parents ∙ ap (λ m. m + 1) sound.each_parent ∙ sym more;
        each_node = more_nodes ∙ ap (λ m. m + 1) sound.each_node ∙ sym more;
        below = still_below from;
        placed = All-push (λ v. v < length (with_row store node parent row).buckets) store.nodes node
            (All-weaker (λ v. v < length store.buckets) (λ v. v < length (with_row store node parent row).buckets) (λ v below. omega (arith, below, same_buckets)) store.nodes sound.placed)
            inside;
        numbers = still_numbers place;
        apart = still_apart decides place alone;
        few = omega (arith, more, room);
        small = omega (arith, same_buckets, sound.small);
      }

  -- the new row covers itself
  pub new_covered : EachAtMostItself → node < length store.buckets
      → IsCovered (store.rows ++ row ∷ []) (bucket_of (with_row store node parent row) node) row
  new_covered itself place = (
    length store.rows,
    (
      subst (λ b. Contains b (length store.rows)) (sym (own_bucket place)) (Contains-push (filter stays (bucket_of store node)) (length store.rows)),
      subst (λ r. EachAtMost r row) (sym new_values) (itself row),
    ),
  )

  -- what a row of the node covered is covered by it, or by the new row
  covered_at_node : EachAtMostDecides → EachAtMostItself → EachAtMostChains → node < length store.buckets → (other : List ℤ)
      → IsCovered store.rows (bucket_of store node) other → IsCovered (store.rows ++ row ∷ []) (bucket_of (with_row store node parent row) node) other
  covered_at_node decides itself chains place other (j, (has, covers)) =
      let kept : j < length store.rows = All-contains (λ m. m < length store.rows) (bucket_of store node) j (kept_in node place) has in
      elim (true_or_not (each_at_most row (row_at store.rows j))) [
        | inl goes ↦
            let new = new_covered itself place in (
              new.0,
              (
                new.1.0,
                chains (row_at (store.rows ++ row ∷ []) new.0) (row_at store.rows j) other
                    (chains (row_at (store.rows ++ row ∷ []) new.0) row (row_at store.rows j) new.1.1 ((decides row (row_at store.rows j)).0 goes)) covers,
              ),
            )
        | inr remains ↦ (
          j,
          (
            subst (λ b. Contains b j) (sym (own_bucket place))
                (Contains-append_left (filter stays (bucket_of store node)) (length store.rows ∷ []) j (filter_has stays (bucket_of store node) j has (ap not remains))),
            subst (λ r. EachAtMost r other) (sym (row_before store.rows row j kept)) covers,
          ),
        )
      ]

  -- and so it is at every node
  pub still_covered : EachAtMostDecides → EachAtMostItself → EachAtMostChains → (v : ℕ) (other : List ℤ) → IsCovered store.rows (bucket_of store v) other
      → IsCovered (store.rows ++ row ∷ []) (bucket_of (with_row store node parent row) v) other
  still_covered decides itself chains v other (j, (has, covers)) = elim (cases_lt v (length store.buckets)) [
    | inl inside ↦ elim (same_or_not v node) [
      | inl same ↦
          let place : node < length store.buckets = subst (λ m. m < length store.buckets) same inside in
          let before = subst (λ m. IsCovered store.rows (bucket_of store m) other) same (j, (has, covers)) in
          subst (λ m. IsCovered (store.rows ++ row ∷ []) (bucket_of (with_row store node parent row) m) other) (sym same)
          (covered_at_node decides itself chains place other before)
      | inr others ↦
          let kept : j < length store.rows = All-contains (λ m. m < length store.rows) (bucket_of store v) j (kept_in v inside) has in
          (j, (subst (λ b. Contains b j) (sym (other_bucket v others)) has, subst (λ r. EachAtMost r other) (sym (row_before store.rows row j kept)) covers))
    ]
    | inr past ↦ absurd (nothing_past store v j past has)
  ]
