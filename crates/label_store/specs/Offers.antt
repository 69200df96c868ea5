-- What an offer of a row to a node does: nothing where a row of the bucket covers it, and otherwise it enters.
-- For src/store.rt.
use Rattle.std.specs.Prelude.{ℕ, ℤ, ◌≡◌, ◌<◌, ◌^◌, List, Option, length}
use Rattle.label_store.specs.declared.offered.Offered.{Offered}
use Rattle.label_store.specs.declared.offered.Offered.TheVariants.{Kept, Covered}
use Rattle.label_store.specs.Seen.{StoreSeen, RowsSeen}
use Rattle.label_store.specs.inside.RowsParts.{rows_with}
use Rattle.label_store.specs.Buckets.{IsCoveredBy, IsCovered, bucket_with}
use Rattle.label_store.specs.Store.{bucket_of, with_row}

-- where a row of the bucket covers it, such a row is named and nothing changes; and
-- otherwise it enters, with the number of the rows before it
abbrev pub Offers : StoreSeen → StoreSeen → ℕ → Option ℕ → List ℤ → Offered → Type 0
Offers old new node parent row (Covered j) = IsCoveredBy old.rows (bucket_of old node) row j × (new ≡ old)
Offers old new node parent row (Kept i) =
    (¬ IsCovered old.rows (bucket_of old node) row) × (i ≡ length old.rows) × (new ≡ with_row old node parent row)

-- the same of rows and one bucket
abbrev pub OffersTo : RowsSeen → RowsSeen → List ℕ → List ℕ → ℕ → Option ℕ → List ℤ → Offered → Type 0
OffersTo old new bucket later node parent row (Covered j) =
    IsCoveredBy old.rows bucket row j × (new ≡ old) × (later ≡ bucket)
OffersTo old new bucket later node parent row (Kept i) =
    (¬ IsCovered old.rows bucket row) × (i ≡ length old.rows) × (i < 2 ^ 32) × (new ≡ rows_with old node parent row)
    × (later ≡ bucket_with old.rows bucket row i)
