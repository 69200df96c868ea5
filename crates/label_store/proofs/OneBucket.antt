-- An offer to one bucket is an offer to the store that has it. A covered row leaves the bucket as it was, and to put it
-- back changes no bucket; a kept one enters this bucket, and all others have their numbers still. Rows only come behind
-- the others, so the values of every bucket are packed still, and with the laws of offers the store keeps what is said
-- of every store: whatever the answer is, and also where memory is refused, as nothing has changed then.
use Rattle.std.proofs.Common.{◌≡◌, ℕ, ℤ, arith, inl, inr, ◌<◌, ◌^◌, List, [], length, get_or, set, sym, ◌∙◌, ap, ap₂, subst, get_or-set_other}
use Rattle.std.specs.Prelude.{All, Option, Result, Ok, Err, IfOk, OnErr, IfSome}
use Rattle.std.proofs.lemmas.List.{set-get_or, length-set, get_or-set_same}
use Rattle.std.proofs.lemmas.List.Elements.{All-weaker}
use Rattle.label_store.specs.declared.offered.Offered.{Offered}
use Rattle.label_store.specs.declared.offered.Offered.TheVariants.{Kept, Covered}
use Rattle.label_store.specs.Seen.{RowsSeen}
use Rattle.label_store.specs.Buckets.{bucket_with}
use Rattle.label_store.specs.Store.{IsStore, IsRowOf, store_of}
use Rattle.label_store.specs.Offers.{Offers, OffersTo}
use Rattle.label_store.specs.inside.Laws.{OffersKeepStores}
use Rattle.label_store.specs.inside.Packing.{IsPacked, ArePacked}
use Rattle.label_store.proofs.Packing.{same_or_not, packed_longer}

module _ (old new : RowsSeen) (buckets : List (List ℕ)) (bucket later : List ℕ) (node : ℕ) (parent : Option ℕ) (row : List ℤ)
    (is : bucket ≡ get_or buckets node []) where
  -- a bucket that is put back as it was
  put_back : later ≡ bucket → set buckets node later ≡ buckets
  put_back same = ap (set buckets node) (same ∙ is) ∙ set-get_or buckets node []

  offers_of : (offered : Offered) → OffersTo old new bucket later node parent row offered
      → Offers (store_of old buckets) (store_of new (set buckets node later)) node parent row offered
  offers_of offered says = from offered (subst (λ b. OffersTo old new b later node parent row offered) is says) where
    from : (offered : Offered) → OffersTo old new (get_or buckets node []) later node parent row offered
        → Offers (store_of old buckets) (store_of new (set buckets node later)) node parent row offered
    from (Covered j) (covers, same_rows, same) = (covers, ap₂ store_of same_rows (put_back (same ∙ sym is)))
    from (Kept i) (alone, number, room, rows, entered) = (
      alone,
      number,
      ap₂ (λ r b. store_of r (set buckets node b)) rows (entered ∙ ap (bucket_with old.rows (get_or buckets node []) row) number),
    )

  -- whatever the answer is
  pub offered_of : {E : Type 0} → (result : Result Offered E) → IfOk result (λ offered. OffersTo old new bucket later node parent row offered)
      → IfOk result (λ offered. Offers (store_of old buckets) (store_of new (set buckets node later)) node parent row offered)
  offered_of (Ok offered) says = offers_of offered says
  offered_of (Err error) says = tt

  store_kept : OffersKeepStores → (offered : Offered) → node < length buckets → IsStore (store_of old buckets)
      → IfSome parent (λ j. j < length old.rows) → length row ≡ old.width → OffersTo old new bucket later node parent row offered
      → IsStore (store_of new (set buckets node later))
  store_kept keep (Covered j) place sound from wide (covers, same_rows, same) =
      subst IsStore (sym (ap₂ store_of same_rows (put_back same))) sound
  store_kept keep (Kept i) place sound from wide (alone, number, room, rows, entered) =
      let few : length old.rows < 2 ^ 32 = subst (λ m. m < 2 ^ 32) number room in
      keep (store_of old buckets) (store_of new (set buckets node later)) node parent row (Kept i) sound place from wide few
      (offers_of (Kept i) (alone, number, room, rows, entered))

  -- the store keeps what is said of every store, whatever the answer is
  pub store_after : {E : Type 0} → OffersKeepStores → (result : Result Offered E) → node < length buckets → IsStore (store_of old buckets)
      → IfSome parent (λ j. j < length old.rows) → length row ≡ old.width
      → IfOk result (λ offered. OffersTo old new bucket later node parent row offered) → OnErr result (new ≡ old) → OnErr result (later ≡ bucket)
      → IsStore (store_of new (set buckets node later))
  store_after keep (Ok offered) place sound from wide says same_rows same = store_kept keep offered place sound from wide says
  store_after keep (Err error) place sound from wide says same_rows same =
      subst IsStore (sym (ap₂ store_of same_rows (put_back same))) sound

-- a bucket whose values are packed has them packed still, where rows have come
module _ (old new : RowsSeen) (bucket later : List ℕ) (node : ℕ) (parent : Option ℕ) (row : List ℤ) where
  pub packed_still : {E : Type 0} → (result : Result Offered E) → IfOk result (λ offered. OffersTo old new bucket later node parent row offered)
      → OnErr result (new ≡ old) → (other : List ℕ) (values : List ℤ) → All (λ j. j < length old.rows) other
      → IsPacked old.width old.rows other values → IsPacked new.width new.rows other values
  packed_still (Ok (Covered j)) (covers, same_rows, same) ok other values numbers packed =
      subst (λ (s : RowsSeen). IsPacked s.width s.rows other values) (sym same_rows) packed
  packed_still (Ok (Kept i)) (alone, number, room, rows, entered) ok other values numbers packed =
      subst (λ (s : RowsSeen). IsPacked s.width s.rows other values) (sym rows) (packed_longer old.width old.rows other values packed row numbers)
  packed_still (Err error) ok same_rows other values numbers packed =
      subst (λ (s : RowsSeen). IsPacked s.width s.rows other values) (sym same_rows) packed

  -- so every bucket of a store has, where one of them is offered to
  pub packed_after : {E : Type 0} → (result : Result Offered E) (buckets : List (List ℕ)) (packed : List (List ℤ)) (values : List ℤ)
      → IfOk result (λ offered. OffersTo old new bucket later node parent row offered) → OnErr result (new ≡ old)
      → IsStore (store_of old buckets) → ArePacked (store_of old buckets) packed → node < length buckets
      → IsPacked new.width new.rows later values → ArePacked (store_of new (set buckets node later)) (set packed node values)
  packed_after result buckets packed values says same_rows sound are place entered = record {
    many = length-set packed node values ∙ are.many ∙ sym (length-set buckets node later);
    each = λ v below.
        let inside : v < length buckets = omega (arith, below, length-set buckets node later) in
        elim (same_or_not v node) [
          | inl same ↦
              let room : node < length packed = omega (arith, place, are.many) in
              let bucket_is : get_or (set buckets node later) v [] ≡ later =
              ap (λ n. get_or (set buckets node later) n []) same ∙ get_or-set_same buckets node later [] place in
              let values_are : get_or (set packed node values) v [] ≡ values =
              ap (λ n. get_or (set packed node values) n []) same ∙ get_or-set_same packed node values [] room in
              subst (λ b. IsPacked new.width new.rows b (get_or (set packed node values) v [])) (sym bucket_is)
              (subst (λ l. IsPacked new.width new.rows later l) (sym values_are) entered)
          | inr other ↦
              let bucket_is = get_or-set_other buckets node v later [] other in
              let values_are = get_or-set_other packed node v values [] other in
              let numbers : All (λ j. j < length old.rows) (get_or buckets v []) =
              All-weaker (IsRowOf (store_of old buckets) v) (λ j. j < length old.rows) (λ j is. is.kept) (get_or buckets v []) (sound.numbers v inside) in
              subst (λ b. IsPacked new.width new.rows b (get_or (set packed node values) v [])) (sym bucket_is)
              (subst (λ l. IsPacked new.width new.rows (get_or buckets v []) l) (sym values_are)
              (packed_still result says same_rows (get_or buckets v []) (get_or packed v []) numbers (are.each v inside)))
        ];
  }
