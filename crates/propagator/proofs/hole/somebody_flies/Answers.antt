use Rattle.std.proofs.Common.{◌<◌, ◌≤◌, ◌≡◌, ℕ, inl, inr, true, false, List, arith, ap, length}
use Rattle.std.specs.Prelude.{nat_lt}
use Rattle.std.proofs.lemmas.Bool.{both_ways, cases_lt}
use Rattle.std.proofs.lemmas.Bool.Decides.{Decides-ltb}
use Rattle.tail_book.specs.Seen.{BookSeen}
use Rattle.tail_book.specs.Lookup.{aircraft}
use Rattle.branch_marks.specs.declared.fact.Fact.{Fact}
use Rattle.branch_marks.specs.MarkTests.{is_alive}
use Rattle.branch_marks.specs.inside.MarkTests.{AliveDecides}
use Rattle.propagator.specs.Closed.{SomebodyFlies}
use Rattle.propagator.proofs.hole.somebody_flies.Goals as goal

-- the first one alive, if it is of the book
somebody_is : AliveDecides → (book : BookSeen) (marks : List Fact) (a first m : ℕ) → m ≡ aircraft book
    → ((k : ℕ) → 0 ≤ k → k < first → is_alive book marks k a ≡ false) → (first < aircraft book → is_alive book marks first a ≡ true)
    → (nat_lt first m ≡ true → SomebodyFlies book marks a) × (SomebodyFlies book marks a → nat_lt first m ≡ true)
somebody_is alive book marks a first m e none found = (
  (λ t. let lt : first < aircraft book = omega (arith, e, (Decides-ltb first m).0 t) in (first, lt, (alive book marks first a).0 (found lt))),
  (λ s. let (k, lt, on) = s in
      (Decides-ltb first m).1 (elim (cases_lt k first) [
        | inl before ↦ absurd (both_ways (is_alive book marks k a) (none k (omega arith) before) ((alive book marks k a).1 on))
        | inr from ↦ omega (arith, e, lt, from)
      ])),
)

pub returns : goal.returns
returns c =
    let all : c.len-m.result ≡ aircraft c.args.book.now = omega (arith, ap (λ (b : BookSeen). length b.tails) c.book.view_is) in
    somebody_is c.alive_decides.ensures c.args.book.now c.args.marks.now.facts c.args.a c.next_alive.result c.len-m.result all
    c.next_alive.ensures.none c.next_alive.ensures.found
