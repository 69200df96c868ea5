use Rattle.std.proofs.Common.{◌≡◌, ◌<◌, ℕ, length, get_or}
use Rattle.label_store.specs.Store.{bucket_of}
use Rattle.pricing.specs.inside.Asked.{IsUnderWay}
use Rattle.label_store.specs.inside.Growth.{IsAsWide}
use Rattle.pricing.specs.inside.Growth.{Grows}
use Rattle.pricing.specs.inside.Waiting.{IsTriedIn, IsWaiting, window_at}
use Rattle.pricing.proofs.departing.depart.Given as goal

-- the entries before place q were tried
abbrev pub invariant-loop-q : goal.invariant-loop-q
invariant-loop-q l = record {
  state : IsUnderWay l.asked l.store (length l.row);
  grows : Grows l.b l.initial.store l.store;
  wide : IsAsWide l.initial.store l.store;
  row : length l.row ≡ length l.initial.row;
  waiting : IsWaiting l.asked.book.now l.asked.marks.now.facts l.lines.stand l.lines.windows.now l.store l.waiting;
  tried : (r : ℕ) → r < l.q → IsTriedIn l.asked.table.now l.asked.book.now l.asked.k l.asked.duals.now.values l.initial.store l.store (window_at l.lines.windows.now l.i).hi l.b l.waiting (get_or (bucket_of l.waiting.keys l.i) r 0);
}
