-- How a bucket keeps the values of its rows: one row after the other, in the order of their numbers.
-- For src/packed.rt, src/bucket.rt and others.
use Rattle.std.specs.Prelude.{ℕ, ℤ, ◌≡◌, ◌≢◌, ◌<◌, ◌*◌, List, [], take, drop, length, slice_index_or}
use Rattle.label_store.specs.Seen.{StoreSeen}
use Rattle.label_store.specs.Buckets.{row_at}
use Rattle.label_store.specs.Store.{bucket_of, IsStore}

-- the values at a place, where rows of this width stand one after the other
abbrev pub part : ℕ → ℕ → List ℤ → List ℤ
part width q values = take width (drop (q * width) values)

-- at the place of each number stand the values of its row, and nothing stands behind the last one
pub record IsPacked (width : ℕ) (rows : List (List ℤ)) (bucket : List ℕ) (values : List ℤ) : Type 0 where
  pub fill : length values ≡ length bucket * width
  pub each : (q : ℕ) → q < length bucket → part width q values ≡ row_at rows (slice_index_or bucket q 0)

-- so it is at every node of the store
pub record ArePacked (store : StoreSeen) (packed : List (List ℤ)) : Type 0 where
  pub many : length packed ≡ length store.buckets
  pub each : (node : ℕ) → node < length store.buckets
      → IsPacked store.width store.rows (bucket_of store node) (slice_index_or packed node [])

-- a store, with the values of its buckets
pub record IsPackedStore (store : StoreSeen) (packed : List (List ℤ)) : Type 0 where
  pub sound : IsStore store
  pub values : ArePacked store packed

-- what stood at one place stands at another one as well, and all else where it stood
pub record HasMoved (width from to : ℕ) (old now : List ℤ) : Type 0 where
  pub long : length now ≡ length old
  pub moved : part width to now ≡ part width from old
  pub others : (p : ℕ) → p ≢ to → part width p now ≡ part width p old
