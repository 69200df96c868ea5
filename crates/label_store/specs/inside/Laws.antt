-- What offers keep, for those who look for routes.
use Rattle.std.specs.Prelude.{ℕ, ℤ, ◌≡◌, ◌≢◌, ◌<◌, ◌≤◌, ◌⊎◌, ◌↔◌, ◌^◌, List, Option, IfSome, length, slice_index_or}
use Rattle.std.specs.List.{Contains}
use Rattle.tail_book.specs.CounterOrder.{EachAtMost}
use Rattle.label_store.specs.declared.offered.Offered.{Offered}
use Rattle.label_store.specs.declared.offered.Offered.TheVariants.{Kept}
use Rattle.label_store.specs.Seen.{StoreSeen}
use Rattle.label_store.specs.Buckets.{row_at, IsCovered}
use Rattle.label_store.specs.Store.{parent_of, node_of, bucket_of, IsStore}
use Rattle.label_store.specs.Offers.{Offers}

-- these values are covered at the node
abbrev pub IsCoveredAt : StoreSeen → ℕ → List ℤ → Type 0
IsCoveredAt store node row = IsCovered store.rows (bucket_of store node) row

-- where the parent is a kept row or none, a row of the width that is kept or covered leaves a store
abbrev pub OffersKeepStores : Type 0
OffersKeepStores = (old new : StoreSeen) (node : ℕ) (parent : Option ℕ) (row : List ℤ) (offered : Offered) → IsStore old
    → node < length old.buckets → IfSome parent (λ j. j < length old.rows) → length row ≡ old.width
    → length old.rows < 2 ^ 32 → Offers old new node parent row offered → IsStore new

-- what was covered at a node stays covered there, whatever is offered to any node
abbrev pub OffersKeepCovered : Type 0
OffersKeepCovered = (old new : StoreSeen) (node : ℕ) (parent : Option ℕ) (row : List ℤ) (offered : Offered)
    → IsStore old → Offers old new node parent row offered
    → (v : ℕ) (other : List ℤ) → IsCoveredAt old v other → IsCoveredAt new v other

-- after an offer the offered row is covered at its node
abbrev pub OfferedRowsAreCovered : Type 0
OfferedRowsAreCovered = (old new : StoreSeen) (node : ℕ) (parent : Option ℕ) (row : List ℤ) (offered : Offered)
    → IsStore old → node < length old.buckets → Offers old new node parent row offered → IsCoveredAt new node row

-- the rows of one store are kept in the other: there are no fewer, and each has its values, its parent and its node
pub record KeepsRows (old new : StoreSeen) : Type 0 where
  pub longer : length old.rows ≤ length new.rows
  pub rows : (i : ℕ) → i < length old.rows → row_at new.rows i ≡ row_at old.rows i
  pub parents : (i : ℕ) → i < length old.rows → parent_of new i ≡ parent_of old i
  pub nodes : (i : ℕ) → i < length old.rows → node_of new i ≡ node_of old i

-- an offer keeps all rows, those that leave a bucket too
abbrev pub OffersKeepRows : Type 0
OffersKeepRows = (old new : StoreSeen) (node : ℕ) (parent : Option ℕ) (row : List ℤ) (offered : Offered) → IsStore old
    → Offers old new node parent row offered → KeepsRows old new

-- the row of a number has these values, this parent and this node
pub record IsEntered (store : StoreSeen) (i node : ℕ) (parent : Option ℕ) (row : List ℤ) : Type 0 where
  pub values : row_at store.rows i ≡ row
  pub came_from : parent_of store i ≡ parent
  pub place : node_of store i ≡ node

-- a kept row is what was offered
abbrev pub KeptRowsAreOffered : Type 0
KeptRowsAreOffered = (old new : StoreSeen) (node : ℕ) (parent : Option ℕ) (row : List ℤ) (i : ℕ) → IsStore old
    → Offers old new node parent row (Kept i) → IsEntered new i node parent row

-- what the bucket has behind an offer that was kept: the new row, and those of before that it does not cover
abbrev pub BucketsHaveTheRest : Type 0
BucketsHaveTheRest = (old new : StoreSeen) (node : ℕ) (parent : Option ℕ) (row : List ℤ) (i : ℕ)
    → node < length old.buckets → Offers old new node parent row (Kept i) → (j : ℕ)
    → Contains (bucket_of new node) j
    ↔ ((Contains (bucket_of old node) j × (¬ EachAtMost row (row_at old.rows j))) ⊎ (i ≡ j))

-- an offer to one node changes no bucket of another one
abbrev pub OthersStay : Type 0
OthersStay = (old new : StoreSeen) (node : ℕ) (parent : Option ℕ) (row : List ℤ) (offered : Offered)
    → Offers old new node parent row offered → (v : ℕ) → v ≢ node → bucket_of new v ≡ bucket_of old v

-- of two rows of one bucket, at different places, neither covers the other
abbrev pub RowsOfBucketsAreApart : Type 0
RowsOfBucketsAreApart = (store : StoreSeen) → IsStore store → (node : ℕ) → node < length store.buckets → (p q : ℕ)
    → p < length (bucket_of store node) → q < length (bucket_of store node) → p ≢ q
    → ¬ EachAtMost (row_at store.rows (slice_index_or (bucket_of store node) p 0))
    (row_at store.rows (slice_index_or (bucket_of store node) q 0))
