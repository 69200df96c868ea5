-- Settling one aircraft after the other. What is settled for one stands while the others are, since all that is added
-- for another leaves it the same activities, links and ends, and so the same floors, and nothing new dead. Those that
-- are still to come are ready: the floors in their rows are those of the first n facts, which stay the first ones. An
-- aircraft that was settled is ready again for one fact more.
use Rattle.std.specs.Prelude.{◌≢◌}
use Rattle.std.proofs.Common.{◌≡◌, ◌∙◌, ℕ, ℤ, ◌<◌, ◌≤◌, ◌+◌, List, ◌++◌, Option, None, Some, take, sym, ap, subst, arith, below_more}
use Rattle.std.proofs.lemmas.List.{take-append-le, length-append}
use Rattle.tail_book.specs.Seen.{BookSeen}
use Rattle.tail_book.specs.Lookup.{aircraft}
use Rattle.branch_marks.specs.declared.fact.Fact.{Fact}
use Rattle.branch_marks.specs.declared.fact.Fact.TheVariants.{Bar}
use Rattle.branch_marks.specs.Floors.{floors}
use Rattle.branch_marks.specs.MarksSeen.{MarksSeen}
use Rattle.branch_marks.specs.inside.MarkTables.{AreMarksOf}
use Rattle.floor_rows.specs.inside.FloorRow.{FloorRowSeen}
use Rattle.propagator.specs.inside.Rows.{floors_in, AreRowsOf, ChangesOnly}
use Rattle.propagator.specs.InTurn.{GrowInTurn}
use Rattle.propagator.specs.inside.SameFor.{SameFor, SameFloors, SameDead}
use Rattle.propagator.specs.Keeping.{KeepsSeen}
use Rattle.propagator.specs.inside.Settling.{ActsOn, IsSettledFor, StandsFor, StandBelow}
use Rattle.propagator.specs.inside.Touching.{IsReadyFor}
use Rattle.propagator.proofs.InTurn.{grow_both}

-- the aircraft below n have been settled
pub record AreSettling (book : BookSeen) (n : ℕ) (old new : MarksSeen) (listed listing : List Fact) (rows : List FloorRowSeen) : Type 0 where
  pub marks : AreMarksOf book new
  pub grows : GrowInTurn book old.facts new.facts listed listing
  pub room : AreRowsOf book rows
  pub stand : StandBelow book new.facts rows n

-- an aircraft stands where marks and rows stay the same for it
pub stands_on : SameFloors → SameDead → (book : BookSeen) (j : ℕ) (old new : List Fact) (rows next : List FloorRowSeen) → SameFor book j old new
    → floors_in next j ≡ floors_in rows j → StandsFor book old rows j → StandsFor book new next j
stands_on same_floors same_dead book j old new rows next same kept stands = record {
  settled = λ a lt dead. stands.settled a lt (same_dead book j old new same a dead);
  floors = kept ∙ stands.floors ∙ sym (same_floors book j old new same);
}

pub settle_next : SameFloors → SameDead → (book : BookSeen) (n : ℕ) (a b c : MarksSeen) (l m o : List Fact) (rows next : List FloorRowSeen)
    → AreSettling book n a b l m rows → AreMarksOf book c → GrowInTurn book b.facts c.facts m o → ActsOn book n b.facts c.facts → AreRowsOf book next
    → ChangesOnly n rows next → StandsFor book c.facts next n → AreSettling book (n + 1) a c l o next
settle_next same_floors same_dead book n a b c l m o rows next so_far marks grows acts room others stands = record {
  marks = marks;
  grows = grow_both book a.facts b.facts c.facts l m o so_far.grows grows;
  room = room;
  stand = below_more (λ (k : ℕ). StandsFor book c.facts next k) n
      (λ k lt. let apart : k ≢ n = omega (arith, lt) in
      stands_on same_floors same_dead book k b.facts c.facts rows next (acts.others k apart) (others k apart) (so_far.stand k lt)) stands;
}

-- what was ready is so still once more facts are there
pub ready_on : (book : BookSeen) (facts more : List Fact) (k : ℕ) (listed : List (Option (List ℤ))) (seen : Option ℕ) → IsReadyFor book facts k listed seen
    → IsReadyFor book (facts ++ more) k listed seen
ready_on book facts more k listed None ready = tt
ready_on book facts more k listed (Some n) ready =
    let (few, settled, are) = ready in
    let same : take n (facts ++ more) ≡ take n facts = take-append-le n facts more few in (
      (let all = length-append facts more in omega (arith, few, all)),
      subst (λ (z : List Fact). IsSettledFor book z k) (sym same) settled,
      are ∙ ap (λ (z : List Fact). floors book z k) (sym same),
    )

-- at first all aircraft are ready
pub ready_first : (book : BookSeen) (facts : List Fact) (rows : List FloorRowSeen) (seen : Option ℕ) → KeepsSeen book facts rows seen
    → (k : ℕ) → k < aircraft book → IsReadyFor book facts k (floors_in rows k) seen
ready_first book facts rows None keeps k lt = tt
ready_first book facts rows (Some n) keeps k lt = (keeps.few, (λ a less dead. keeps.shut (Bar k a) (lt, less) dead), keeps.floors k lt)

-- and those from n on are, while those below it are settled
abbrev pub AreReadyFrom : BookSeen → ℕ → List Fact → List FloorRowSeen → Option ℕ → Type 0
AreReadyFrom book n facts rows seen = (k : ℕ) → n ≤ k → k < aircraft book → IsReadyFor book facts k (floors_in rows k) seen

pub ready_next : (book : BookSeen) (n : ℕ) (old new listed listing : List Fact) (rows next : List FloorRowSeen) (seen : Option ℕ) → GrowInTurn book old new listed listing
    → ChangesOnly n rows next → AreReadyFrom book n old rows seen → AreReadyFrom book (n + 1) new next seen
ready_next book n old new listed listing rows next seen grows others ready k le lt =
    let apart : k ≢ n = omega (arith, le) in
    subst (λ (floors : List (Option (List ℤ))). IsReadyFor book new k floors seen) (sym (others k apart))
    (subst (λ (z : List Fact). IsReadyFor book z k (floors_in rows k) seen) (sym grows.marks)
    (ready_on book old grows.added k (floors_in rows k) seen (ready k (omega (arith, le)) lt)))
