-- Dominance and closed families as tests that compute, and that each decides its definition.
-- For cert_checker/src/cover.rt and cert_checker/src/buckets.rt.
use Rattle.std.specs.Prelude.{ℕ, ℤ, pos, List, Bool, ◌&&◌, ◌||◌, not, nat_eq}
use Rattle.std.specs.List.{list_all, list_any}
use Rattle.tail_book.specs.Seen.{BookSeen}
use Rattle.tail_book.specs.TableSeen.{CostTableSeen}
use Rattle.tail_book.specs.declared.place.Place.{Place}
use Rattle.tail_book.specs.declared.place.Place.TheVariants.{Carry, After}
use Rattle.tail_book.specs.Lookup.{activities, carry_of}
use Rattle.tail_book.specs.Numbers.{int_le}
use Rattle.tail_book.specs.Counters.{step}
use Rattle.tail_book.specs.CounterOrder.{each_at_most}
use Rattle.tail_book.specs.LegalTests.{within_limits}
use Rattle.branch_marks.specs.declared.fact.Fact.{Fact}
use Rattle.branch_marks.specs.Below.{all_below}
use Rattle.branch_marks.specs.MarkTests.{is_alive, is_usable, may_end}
use Rattle.branch_marks.specs.Labels.{Label, label_after}

-- the label covers the other one
abbrev pub covers : Label → Label → Bool
covers label other = nat_eq label.at other.at && (int_le label.weight other.weight && each_at_most label.counters other.counters)

-- some member covers the label
abbrev pub is_covered_by : List Label → Label → Bool
is_covered_by family label = list_any (λ member. covers member label) family

-- each usable link from the place whose step stays within the limits gives a label that a member covers
abbrev pub goes_on : CostTableSeen → BookSeen → List Fact → ℕ → List ℤ → List Label → Place → ℤ → List ℤ → Bool
goes_on table book marks k duals family x weight values =
    all_below (λ b. not (is_usable book marks k x b && within_limits book.rules.counters (step book k x b values))
    || is_covered_by family (label_after table book k duals x weight values b)) (activities book)

-- the family is closed
abbrev pub is_closed_family : CostTableSeen → BookSeen → List Fact → ℕ → List ℤ → List Label → Bool
is_closed_family table book marks k duals family =
    list_all (λ member. is_alive book marks k member.at) family
    && (goes_on table book marks k duals family Carry (pos 0) (carry_of book k)
    && list_all (λ member. goes_on table book marks k duals family (After member.at) member.weight member.counters) family)

-- no end is lighter than this
abbrev pub ends_at_least : List Fact → ℕ → List Label → ℤ → Bool
ends_at_least marks k family low =
    (not (may_end marks k Carry) || int_le low (pos 0))
    && list_all (λ member. not (may_end marks k (After member.at)) || int_le low member.weight) family

-- the aircraft may end nowhere
abbrev pub has_no_end : List Fact → ℕ → List Label → Bool
has_no_end marks k family = not (may_end marks k Carry) && list_all (λ member. not (may_end marks k (After member.at))) family
