-- What more rows leave as it was. For pricing/src/departing.rt, pricing/src/exact_price.rt and others.
use Rattle.std.specs.Prelude.{◌≡◌, ℕ, ℤ, List, length}
use Rattle.label_store.specs.Seen.{StoreSeen}
use Rattle.label_store.specs.Store.{bucket_of}
use Rattle.label_store.specs.inside.Laws.{IsCoveredAt, KeepsRows}

-- rows are added alone, what was covered stays covered, and no bucket of these nodes changes
pub record GrowsBeside (stays : ℕ → Type 0) (old new : StoreSeen) : Type 0 where
  pub rows : KeepsRows old new
  pub covered : (v : ℕ) (row : List ℤ) → IsCoveredAt old v row → IsCoveredAt new v row
  pub others : (v : ℕ) → stays v → bucket_of new v ≡ bucket_of old v

-- the store has room for the same rows at the same nodes
pub record IsAsWide (old new : StoreSeen) : Type 0 where
  pub width : new.width ≡ old.width
  pub nodes : length new.buckets ≡ length old.buckets
