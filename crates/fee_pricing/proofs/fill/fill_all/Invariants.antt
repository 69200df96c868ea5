use Rattle.std.proofs.Common.{◌≡◌, length}
use Rattle.fee_pricing.specs.inside.Asked.{IsUnderWay}
use Rattle.label_store.specs.inside.Growth.{IsAsWide}
use Rattle.fee_pricing.specs.inside.Filled.{AreFilled}
use Rattle.fee_pricing.specs.inside.ForAsked.{arc_for}
use Rattle.fee_pricing.proofs.fill.fill_all.Given as goal

-- the buckets before b are done
abbrev pub invariant-loop-b : goal.invariant-loop-b
invariant-loop-b l = record {
  state : IsUnderWay l.asked l.store (length l.row);
  wide : IsAsWide l.initial.store l.store;
  filled : AreFilled (arc_for l.asked) l.asked.book.now l.asked.marks.now.facts l.asked.k l.store l.b;
  row : length l.row ≡ length l.initial.row;
}
