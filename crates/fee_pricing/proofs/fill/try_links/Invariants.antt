use Rattle.std.proofs.Common.{◌≡◌, ◌<◌, ℕ, length, get_or}
use Rattle.fee_pricing.specs.inside.Asked.{IsUnderWay}
use Rattle.label_store.specs.inside.Growth.{IsAsWide}
use Rattle.pricing.specs.inside.Growth.{Grows}
use Rattle.fee_pricing.specs.inside.Filled.{IsReached}
use Rattle.fee_pricing.specs.inside.ForAsked.{arc_for}
use Rattle.fee_pricing.proofs.fill.try_links.Given as goal

-- the activities at places before i were tried
abbrev pub invariant-loop-i : goal.invariant-loop-i
invariant-loop-i l = record {
  state : IsUnderWay l.asked l.store (length l.row);
  grows : Grows l.b l.initial.store l.store;
  wide : IsAsWide l.initial.store l.store;
  reached : (q : ℕ) → q < l.i → IsReached (arc_for l.asked) l.asked.book.now l.asked.marks.now.facts l.asked.k l.initial.store (get_or l.before q 0) l.b l.store;
  row : length l.row ≡ length l.initial.row;
}
