-- Going over the dead ends of one aircraft from the last activity to the first. What is kept: all that is dead lies
-- below where the pass stands and is flagged to be asked, and the row has the floors of the marks. Where an activity is dead, its Bar takes its floor
-- and no other, and may make only its predecessors dead: these are flagged, and lie below. Where it is not, it is
-- passed.
use Rattle.std.specs.Prelude.{◌≢◌, not, nat_eq}
use Rattle.std.proofs.Common.{◌≡◌, ◌∙◌, ℕ, ℤ, ◌<◌, ◌+◌, Bool, inl, inr, List, [], ◌∷◌, ◌++◌, sym, ap, subst, arith, get_or, length, Option, None}
use Rattle.std.proofs.lemmas.Bool.{both_ways, cond-true, cond-false, true_from_ne_false, cases_order}
use Rattle.std.proofs.Math.ListN.{set}
use Rattle.std.proofs.lemmas.List.{length-set, get_or-set_other, ext_get_or}
use Rattle.std.proofs.lemmas.Grind.{get_or-set_at}
use Rattle.std.proofs.lemmas.Bool.Decides.{eqb_tells}
use Rattle.tail_book.specs.Seen.{BookSeen}
use Rattle.tail_book.specs.Lookup.{activities}
use Rattle.branch_marks.specs.declared.fact.Fact.{Fact}
use Rattle.branch_marks.specs.declared.fact.Fact.TheVariants.{Bar}
use Rattle.branch_marks.specs.MarkTests.{is_alive}
use Rattle.branch_marks.specs.inside.MarkTests.{AliveDecides}
use Rattle.branch_marks.specs.MarksSeen.{MarksSeen}
use Rattle.branch_marks.specs.inside.MarkTables.{AreMarksOf}
use Rattle.branch_marks.specs.Floors.{floors, FloorsCount}
use Rattle.branch_marks.specs.Following.{IsDead}
use Rattle.floor_rows.specs.inside.FloorRow.{FloorRowSeen}
use Rattle.propagator.specs.InTurn.{GrowInTurn}
use Rattle.floor_rows.specs.inside.LeastOver.{floor_of}
use Rattle.propagator.specs.inside.OneMore.{BarsTakeOneFloor, BarsKillNothingLater, BarsKillPredecessors}
use Rattle.propagator.specs.inside.Settling.{ActsOn}
use Rattle.propagator.specs.inside.Touching.{is_set, AreSetToo, IsAskedBelow}
use Rattle.tail_book.specs.inside.Sound.{IsBook}
use Rattle.connection_net.specs.Net.{net_of, predecessors_in}
use Rattle.propagator.proofs.InTurn.{grow_both}
use Rattle.propagator.proofs.MoreMarks.{barred}
use Rattle.propagator.proofs.Arriving.{acts_on}

-- once the floor is taken away, the row has the floors that are left
pub end_floors : BarsTakeOneFloor → FloorsCount → (book : BookSeen) (marks : List Fact) (k c : ℕ) → c < activities book → IsDead book marks k c
    → (listed : List (Option (List ℤ))) → listed ≡ floors book marks k → set listed c None ≡ floors book (marks ++ Bar k c ∷ []) k
end_floors one count book marks k c lt dead listed are =
    let more = count book (marks ++ Bar k c ∷ []) k in
    let same = count book marks k in
    let kept = length-set listed c None in
    let all = ap (λ (z : List (Option (List ℤ))). length z) are in
    ext_get_or None (set listed c None) (floors book (marks ++ Bar k c ∷ []) k) (omega (arith, more, same, kept, all))
    (λ i less. elim (eqb_tells i c) [
      | inl here ↦ (
          get_or-set_at listed c i None None here.1 (omega (arith, lt, same, all))
          ∙ sym (one book marks k c dead i (omega (arith, less, kept, all, same)) ∙ cond-true (nat_eq i c) None (floor_of book marks k i) here.0))
      | inr other ↦ (
          get_or-set_other listed c i None None other.1
          ∙ ap (λ (z : List (Option (List ℤ))). get_or z i None) are
          ∙ sym (one book marks k c dead i (omega (arith, less, kept, all, same)) ∙ cond-false (nat_eq i c) None (floor_of book marks k i) other.0))
    ])

-- what is barred is not dead, since it is not alive
pub end_ended : AliveDecides → (book : BookSeen) (marks : List Fact) (k c : ℕ) → ¬ IsDead book (marks ++ Bar k c ∷ []) k c
end_ended alive book marks k c d = both_ways (is_alive book (marks ++ Bar k c ∷ []) k c) (barred book marks k c) ((alive book (marks ++ Bar k c ∷ []) k c).1 d.alive)

-- with a Bar, what is dead is to be asked, and comes before: it was dead before, or went on to what is barred now
pub bar_asked : BarsKillNothingLater → BarsKillPredecessors → AliveDecides → (book : BookSeen) → IsBook book → (marks : List Fact) (k c : ℕ) (ask ask' : List Bool)
    → IsDead book marks k c → AreSetToo (predecessors_in (net_of book) c) ask ask' → IsAskedBelow book marks k (c + 1) ask
    → IsAskedBelow book (marks ++ Bar k c ∷ []) k c ask'
bar_asked later apart alive book sound marks k c ask ask' dead more asked a d = (
  true_from_ne_false (is_set ask' a) (λ off.
      let (off', out) = more a off in
      both_ways (is_set ask a) off' (asked a (apart book marks k c dead a (λ same. not_here same) out d)).0),
  before,
)
  where
    not_here : a ≢ c
    not_here same = end_ended alive book marks k c (subst (λ (z : ℕ). IsDead book (marks ++ Bar k c ∷ []) k z) same d)

    before : a < c
    before = elim (cases_order a c) [
      | inl same ↦ absurd (not_here same)
      | inr o ↦ elim o [
        | inl less ↦ less
        | inr more ↦ (let under = (asked a (later book sound marks k c dead a more d)).1 in absurd (omega (arith, more, under)))
      ]
    ]

-- what is not dead need not be asked
pub not_asked : (book : BookSeen) (marks : List Fact) (k c : ℕ) (ask : List Bool) → ¬ IsDead book marks k c → IsAskedBelow book marks k (c + 1) ask → IsAskedBelow book marks k c ask
not_asked book marks k c ask not asked a d =
    let (on, under) = asked a d in
    let apart : a ≢ c = λ same. not (subst (λ (z : ℕ). IsDead book marks k z) same d) in
    (on, omega (arith, under, apart))

-- what is dead from n on has been barred
pub record IsEnding (book : BookSeen) (k n : ℕ) (old new : MarksSeen) (listed listing : List Fact) (first row : FloorRowSeen) (ask : List Bool) : Type 0 where
  pub marks : AreMarksOf book new
  pub grows : GrowInTurn book old.facts new.facts listed listing
  pub acts : ActsOn book k old.facts new.facts
  pub width : row.width ≡ first.width
  pub same : row.floors ≡ floors book new.facts k
  pub asked : IsAskedBelow book new.facts k n ask

-- one activity further to the front
pub end_next : (book : BookSeen) (k n x : ℕ) (a b c : MarksSeen) (l m o : List Fact) (first row new : FloorRowSeen) (ask ask' : List Bool)
    → IsEnding book k n a b l m first row ask → AreMarksOf book c → GrowInTurn book b.facts c.facts m o → ActsOn book k b.facts c.facts
    → new.width ≡ row.width → new.floors ≡ floors book c.facts k → IsAskedBelow book c.facts k x ask' → IsEnding book k x a c l o first new ask'
end_next book k n x a b c l m o first row new ask ask' so_far marks grows acts width same asked = record {
  marks = marks;
  grows = grow_both book a.facts b.facts c.facts l m o so_far.grows grows;
  acts = acts_on book k a.facts b.facts c.facts so_far.acts acts;
  width = width ∙ so_far.width;
  same = same;
  asked = asked;
}
