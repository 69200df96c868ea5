-- The laws of offers. A row that is covered changes nothing, and what covers it is in the bucket; one that is kept
-- enters as Entering.antt says, and covers itself. Behind it the bucket has its number and exactly those of before that
-- it does not cover, which is what the filter keeps, by the test of covering.
use Rattle.std.proofs.Common.{◌≡◌, ℕ, ℤ, refl, true, false, Bool, inl, inr, List, [], ◌∷◌, ◌++◌, length, sym, ◌∙◌, ap, subst}
use Rattle.std.specs.Prelude.{not}
use Rattle.std.specs.List.{Contains, filter}
use Rattle.std.proofs.lemmas.List.{get_or-set_same}
use Rattle.std.proofs.lemmas.List.Elements.{Contains-append_left, Contains-push, Contains-push_cases}
use Rattle.tail_book.specs.CounterOrder.{EachAtMost, each_at_most}
use Rattle.tail_book.specs.inside.Order.{EachAtMostDecides, EachAtMostItself, EachAtMostChains}
use Rattle.label_store.specs.declared.offered.Offered.TheVariants.{Kept, Covered}
use Rattle.label_store.specs.Buckets.{row_at, stays_beside, bucket_with}
use Rattle.label_store.specs.Store.{bucket_of, IsStore, with_row}
use Rattle.label_store.specs.inside.Laws.{OffersKeepStores, OffersKeepCovered, OfferedRowsAreCovered, KeptRowsAreOffered, IsEntered, BucketsHaveTheRest, IsCoveredAt}
use Rattle.label_store.proofs.Buckets.{filter_has, filter_had}
use Rattle.label_store.proofs.Entering.{new_values, new_parent, new_node, still_store, still_covered, new_covered, not_covered}

pub offers_keep_stores : EachAtMostDecides → OffersKeepStores
offers_keep_stores decides old new node parent row (Covered j) sound place from wide room offers = subst IsStore (sym offers.1) sound
offers_keep_stores decides old new node parent row (Kept i) sound place from wide room offers =
    subst IsStore (sym offers.2) (still_store old node parent row sound decides place from wide room offers.0)

pub offers_keep_covered : EachAtMostDecides → EachAtMostItself → EachAtMostChains → OffersKeepCovered
offers_keep_covered decides itself chains old new node parent row (Covered j) sound offers v other covered =
    subst (λ s. IsCoveredAt s v other) (sym offers.1) covered
offers_keep_covered decides itself chains old new node parent row (Kept i) sound offers v other covered =
    subst (λ s. IsCoveredAt s v other) (sym offers.2) (still_covered old node parent row sound decides itself chains v other covered)

pub offered_rows_are_covered : EachAtMostItself → OfferedRowsAreCovered
offered_rows_are_covered itself old new node parent row (Covered j) sound place offers =
    subst (λ s. IsCoveredAt s node row) (sym offers.1) (j, offers.0)
offered_rows_are_covered itself old new node parent row (Kept i) sound place offers =
    subst (λ s. IsCoveredAt s node row) (sym offers.2) (new_covered old node parent row sound itself place)

pub kept_rows_are_offered : KeptRowsAreOffered
kept_rows_are_offered old new node parent row i sound offers =
    subst (λ s. IsEntered s i node parent row) (sym offers.2)
    (subst (λ m. IsEntered (with_row old node parent row) m node parent row) (sym offers.1)
    (record {
      values = new_values old node parent row sound;
      came_from = new_parent old node parent row sound;
      place = new_node old node parent row sound;
    }))

-- what the new row does not cover stays
uncovered_stays : EachAtMostDecides → (rows : List (List ℤ)) (row : List ℤ) (j : ℕ) → ¬ EachAtMost row (row_at rows j) → stays_beside rows row j ≡ true
uncovered_stays decides rows row j lets = go (each_at_most row (row_at rows j)) refl where
  go : (b : Bool) → each_at_most row (row_at rows j) ≡ b → not b ≡ true
  go true is = absurd (lets ((decides row (row_at rows j)).0 is))
  go false is = refl

pub buckets_have_the_rest : EachAtMostDecides → BucketsHaveTheRest
buckets_have_the_rest decides old new node parent row i place offers j =
    let rest = filter (stays_beside old.rows row) (bucket_of old node) in
    let bucket : bucket_of new node ≡ rest ++ i ∷ [] =
    ap (λ s. bucket_of s node) offers.2
    ∙ get_or-set_same old.buckets node (bucket_with old.rows (bucket_of old node) row (length old.rows)) [] place
    ∙ ap (λ m. rest ++ m ∷ []) (sym offers.1) in (
      λ has. elim (Contains-push_cases rest i j (subst (λ b. Contains b j) bucket has)) [
        | inl stays ↦
            let had = filter_had (stays_beside old.rows row) (bucket_of old node) j stays in
            inl (had.0, not_covered decides old.rows row j had.1)
        | inr same ↦ inr same
      ],
      λ known. subst (λ b. Contains b j) (sym bucket) (elim known [
        | inl (had, lets) ↦
            Contains-append_left rest (i ∷ []) j (filter_has (stays_beside old.rows row) (bucket_of old node) j had (uncovered_stays decides old.rows row j lets))
        | inr same ↦ subst (Contains (rest ++ i ∷ [])) same (Contains-push rest i)
      ]),
    )
