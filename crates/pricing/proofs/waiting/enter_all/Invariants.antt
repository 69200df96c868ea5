use Rattle.std.proofs.Common.{◌<◌, ℕ, get_or}
use Rattle.label_store.specs.Store.{bucket_of}
use Rattle.label_store.specs.inside.Growth.{IsAsWide}
use Rattle.pricing.specs.inside.Waiting.{IsWaiting, IsHeld, Joins}
use Rattle.pricing.proofs.waiting.enter_all.Given as goal

-- the labels before place q are held
abbrev pub invariant-loop-q : goal.invariant-loop-q
invariant-loop-q l = record {
  waiting : IsWaiting l.asked.book.now l.asked.marks.now.facts l.lines.stand l.lines.windows.now l.store l.waiting;
  joins : Joins l.i l.initial.waiting l.waiting;
  held : (r : ℕ) → r < l.q → IsHeld l.asked.book.now l.lines.stand l.lines.windows.now l.store l.waiting l.i l.x (get_or (bucket_of l.store l.x) r 0);
  wide : IsAsWide l.initial.waiting.keys l.waiting.keys;
}
