-- The tests of dominance and of closed families decide their definitions. Each test has the shape of its definition,
-- part by part, so it decides it once its parts are decided: places, weights and counters of labels; for each activity
-- below the book's number, whether it is usable and within the limits, and whether some member covers its label; and
-- for each member of the family, that this holds of what comes behind it, or that it is no end.
use Rattle.std.proofs.Common.{ℕ, ℤ, pos, ◌≤ℤ◌, List}
use Rattle.std.specs.Prelude.{not, ◌&&◌, ◌||◌}
use Rattle.std.specs.Bool.{Decides}
use Rattle.std.proofs.lemmas.Bool.Decides.{Decides-eqb, Decides-and, Decides-not, Decides-like}
use Rattle.tail_book.specs.Seen.{BookSeen}
use Rattle.tail_book.specs.TableSeen.{CostTableSeen}
use Rattle.tail_book.specs.declared.place.Place.{Place}
use Rattle.tail_book.specs.declared.place.Place.TheVariants.{Carry, After}
use Rattle.tail_book.specs.Lookup.{activities, carry_of}
use Rattle.tail_book.specs.Numbers.{int_le}
use Rattle.tail_book.specs.Counters.{step, WithinLimits}
use Rattle.tail_book.specs.inside.Order.{EachAtMostDecides}
use Rattle.tail_book.specs.LegalTests.{within_limits}
use Rattle.tail_book.specs.inside.Tests.{LimitsDecide}
use Rattle.branch_marks.specs.declared.fact.Fact.{Fact}
use Rattle.branch_marks.specs.Marks.{IsAlive, IsUsable, MayEnd}
use Rattle.branch_marks.specs.MarkTests.{is_alive, is_usable, may_end}
use Rattle.branch_marks.specs.inside.MarkTests.{AliveDecides, UsableDecides, MayEndDecides}
use Rattle.branch_marks.specs.Labels.{Label, Covers, IsCoveredBy, label_after}
use Rattle.branch_marks.specs.Families.{GoesOn, IsClosedFamily, EndsAtLeast, HasNoEnd}
use Rattle.branch_marks.specs.FamilyTests.{covers, goes_on, is_closed_family, ends_at_least, has_no_end}
use Rattle.branch_marks.specs.inside.FamilyTests.{CoversDecides}
use Rattle.branch_marks.proofs.Decisions.{all_tested, any_tested, implied, int_le_tested}
use Rattle.branch_marks.proofs.BelowDecided.{all_below_tested}

pub covers_tested : EachAtMostDecides → (label other : Label) → Decides (covers label other) (Covers label other)
covers_tested at_most label other =
    Decides-like (covers label other) (λ h. record { at = h.0; weight = h.1.0; counters = h.1.1 }) (λ c. (c.at, (c.weight, c.counters)))
    (Decides-and _ _ (Decides-eqb label.at other.at) (Decides-and _ _ (int_le_tested label.weight other.weight) (at_most label.counters other.counters)))

module _ (alive : AliveDecides) (usable : UsableDecides) (limits : LimitsDecide) (covering : CoversDecides) where
  goes_tested : (table : CostTableSeen) (book : BookSeen) (marks : List Fact) (k : ℕ) (duals : List ℤ) (family : List Label) (x : Place) (weight : ℤ) (values : List ℤ)
      → Decides (goes_on table book marks k duals family x weight values) (GoesOn table book marks k duals family x weight values)
  goes_tested table book marks k duals family x weight values =
      Decides-like (goes_on table book marks k duals family x weight values) (λ h b lt u w. h b lt (u, w)) (λ g b lt p. g b lt p.0 p.1)
      (all_below_tested _ (λ b. (IsUsable book marks k x b × WithinLimits book.rules.counters (step book k x b values)) → IsCoveredBy family (label_after table book k duals x weight values b))
      (λ b. implied (is_usable book marks k x b && within_limits book.rules.counters (step book k x b values)) _
      (Decides-and _ _ (usable book marks k x b) (limits book.rules.counters (step book k x b values)))
      (any_tested (λ member. covers member (label_after table book k duals x weight values b)) (λ (member : Label). Covers member (label_after table book k duals x weight values b))
      (λ member. covering member (label_after table book k duals x weight values b)) family))
      (activities book))

  pub closed_tested : (table : CostTableSeen) (book : BookSeen) (marks : List Fact) (k : ℕ) (duals : List ℤ) (family : List Label)
      → Decides (is_closed_family table book marks k duals family) (IsClosedFamily table book marks k duals family)
  closed_tested table book marks k duals family =
      Decides-like (is_closed_family table book marks k duals family) (λ h. record { alive = h.0; first = h.1.0; next = h.1.1 }) (λ c. (c.alive, (c.first, c.next)))
      (Decides-and _ _ (all_tested (λ member. is_alive book marks k member.at) (λ (member : Label). IsAlive book marks k member.at) (λ member. alive book marks k member.at) family)
      (Decides-and _ _ (goes_tested table book marks k duals family Carry (pos 0) (carry_of book k))
      (all_tested (λ member. goes_on table book marks k duals family (After member.at) member.weight member.counters)
      (λ (member : Label). GoesOn table book marks k duals family (After member.at) member.weight member.counters)
      (λ member. goes_tested table book marks k duals family (After member.at) member.weight member.counters) family)))

pub ends_tested : MayEndDecides → (marks : List Fact) (k : ℕ) (family : List Label) (low : ℤ) → Decides (ends_at_least marks k family low) (EndsAtLeast marks k family low)
ends_tested end marks k family low =
    Decides-like (ends_at_least marks k family low) (λ h. record { first = h.0; members = h.1 }) (λ e. (e.first, e.members))
    (Decides-and _ _ (implied (may_end marks k Carry) _ (end marks k Carry) (int_le_tested low (pos 0)))
    (all_tested (λ member. not (may_end marks k (After member.at)) || int_le low member.weight) (λ (member : Label). MayEnd marks k (After member.at) → low ≤ℤ member.weight)
    (λ member. implied (may_end marks k (After member.at)) _ (end marks k (After member.at)) (int_le_tested low member.weight)) family))

pub no_end_tested : MayEndDecides → (marks : List Fact) (k : ℕ) (family : List Label) → Decides (has_no_end marks k family) (HasNoEnd marks k family)
no_end_tested end marks k family =
    Decides-like (has_no_end marks k family) (λ h. record { first = h.0; members = h.1 }) (λ e. (e.first, e.members))
    (Decides-and _ _ (Decides-not _ (end marks k Carry))
    (all_tested (λ member. not (may_end marks k (After member.at))) (λ (member : Label). ¬ MayEnd marks k (After member.at)) (λ member. Decides-not _ (end marks k (After member.at))) family))
