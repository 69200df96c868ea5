use Rattle.std.proofs.Common.{◌≡◌, ◌<◌, ℕ, length, get_or}
use Rattle.pricing.specs.inside.Asked.{IsUnderWay}
use Rattle.pricing.specs.inside.Filled.{IsReached}
use Rattle.label_store.specs.inside.Growth.{IsAsWide}
use Rattle.pricing.specs.inside.Growth.{Grows}
use Rattle.pricing.proofs.line_fill.try_grounds.Given as goal

-- those at places before q were tried
abbrev pub invariant-loop-q : goal.invariant-loop-q
invariant-loop-q l = record {
  state : IsUnderWay l.asked l.store (length l.row);
  grows : Grows l.b l.initial.store l.store;
  wide : IsAsWide l.initial.store l.store;
  row : length l.row ≡ length l.initial.row;
  reached : (r : ℕ) → r < l.q → get_or l.grounds r 0 < l.b → IsReached l.asked.table.now l.asked.book.now l.asked.marks.now.facts l.asked.k l.asked.duals.now.values l.initial.store (get_or l.grounds r 0) l.b l.store;
}
