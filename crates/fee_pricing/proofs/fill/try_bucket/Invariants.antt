use Rattle.std.proofs.Common.{◌≡◌, ◌<◌, ℕ, length, get_or}
use Rattle.tail_book.specs.declared.place.Place.TheVariants.{After}
use Rattle.label_store.specs.Buckets.{row_at}
use Rattle.label_store.specs.Store.{bucket_of}
use Rattle.fee_pricing.specs.inside.Asked.{IsUnderWay}
use Rattle.label_store.specs.inside.Growth.{IsAsWide}
use Rattle.pricing.specs.inside.Growth.{Grows, Tried}
use Rattle.fee_pricing.proofs.fill.try_bucket.Given as goal

-- the rows before place i were tried
abbrev pub invariant-loop-i : goal.invariant-loop-i
invariant-loop-i l = record {
  state : IsUnderWay l.asked l.store (length l.row);
  grows : Grows l.b l.initial.store l.store;
  wide : IsAsWide l.initial.store l.store;
  tried : (q : ℕ) → q < l.i → Tried l.asked.book.now l.asked.k l.store l.arc (After l.x) l.b (row_at l.initial.store.rows (get_or (bucket_of l.initial.store l.x) q 0));
  row : length l.row ≡ length l.initial.row;
}
