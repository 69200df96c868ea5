-- A family goes on from a place where each usable link from there is met: the counters pass a limit, or some label
-- covers what the link comes to. The code asks only the ways of the network. That is enough, since every usable link is
-- among them; and as each way is an activity of the book, one that is not met is a link over which the family does not
-- go on.
use Rattle.std.specs.Prelude.{not, ◌&&◌, ◌||◌}
use Rattle.std.proofs.Common.{◌≡◌, ◌∙◌, ℕ, ℤ, ◌<◌, Bool, true, false, List, length, get_or, refl, sym, ap, subst}
use Rattle.tail_book.specs.Seen.{BookSeen}
use Rattle.tail_book.specs.Lookup.{activities, aircraft}
use Rattle.tail_book.specs.Counters.{step}
use Rattle.tail_book.specs.declared.place.Place.{Place}
use Rattle.tail_book.specs.declared.place.Place.TheVariants.{Carry, After}
use Rattle.tail_book.specs.CostTable.{costs_of}
use Rattle.tail_book.specs.LegalTests.{within_limits}
use Rattle.connection_net.specs.Net.{net_of, heads_in, successors_in}
use Rattle.connection_net.specs.inside.Laws.{HeadsAreLinks, RowsAreTheirPlaces, RowsRise, SuccessorsAreLinks}
use Rattle.branch_marks.specs.declared.fact.Fact.{Fact}
use Rattle.branch_marks.specs.Labels.{Label, label_after}
use Rattle.branch_marks.specs.FamilyTests.{goes_on, is_covered_by}
use Rattle.branch_marks.specs.MarkTests.{is_usable}
use Rattle.branch_marks.specs.inside.MarkTests.{UsableDecides}
use Rattle.cert_checker.specs.inside.Leaf.{met}
use Rattle.cert_checker.specs.inside.Ways.{WaysAreAll, ways_of}
use Rattle.cert_checker.proofs.FollowingTold.{all_pass, one_fails}

pub of_book : RowsAreTheirPlaces → ((book : BookSeen) → RowsRise book) → (book : BookSeen) (k : ℕ) (x : Place) (i d : ℕ) → i < length (ways_of book k x)
    → get_or (ways_of book k x) i d < activities book
of_book places rows book k Carry i d lt =
    places.below (activities book) Carry (heads_in (net_of book) k) (get_or (heads_in (net_of book) k) i d) ((rows book).heads k) (places.has (heads_in (net_of book) k) i d lt)
of_book places rows book k (After a) i d lt =
    places.below (activities book) Carry (successors_in (net_of book) a) (get_or (successors_in (net_of book) a) i d) ((rows book).successors a)
    (places.has (successors_in (net_of book) a) i d lt)

pub are_all : RowsAreTheirPlaces → UsableDecides → HeadsAreLinks → SuccessorsAreLinks → WaysAreAll
are_all places usable heads links book marks k Carry b lt on =
    places.stands (heads_in (net_of book) k) b ((heads book k b).1 ((usable book marks k Carry b).0 on).link)
are_all places usable heads links book marks k (After a) b lt on =
    places.stands (successors_in (net_of book) a) b ((links book a b).1 (k, lt, ((usable book marks k (After a) b).0 on).link))

module _ (book : BookSeen) (marks : List Fact) (k : ℕ) (duals : List ℤ) (family : List Label) (x : Place) (weight : ℤ) (values : List ℤ) where
  -- where all ways are met, every link is
  pub goes_on_by : WaysAreAll → k < aircraft book → (items : List ℕ) → items ≡ ways_of book k x
      → ((i : ℕ) → i < length items → met book marks k duals family x weight values (get_or items i 0) ≡ true)
      → goes_on (costs_of book) book marks k duals family x weight values ≡ true
  goes_on_by all lt items are each = all_pass (met book marks k duals family x weight values) (activities book) (λ b within. by_use b (is_usable book marks k x b) refl)
    where
      by_use : (b : ℕ) (can : Bool) → is_usable book marks k x b ≡ can → met book marks k duals family x weight values b ≡ true
      by_use b true e =
          let (i, within, is) = subst (λ (xs : List ℕ). (i : ℕ) × (i < length xs) × (get_or xs i 0 ≡ b)) (sym are) (all book marks k x b lt e) in
          subst (λ (z : ℕ). met book marks k duals family x weight values z ≡ true) is (each i within)
      by_use b false e =
          ap (λ (t : Bool). not (t && within_limits book.rules.counters (step book k x b values)) || is_covered_by family (label_after (costs_of book) book k duals x weight values b)) e

  -- and where one is not, it does not go on
  pub goes_on_not : (b : ℕ) → b < activities book → met book marks k duals family x weight values b ≡ false
      → goes_on (costs_of book) book marks k duals family x weight values ≡ false
  goes_on_not b lt e = one_fails (met book marks k duals family x weight values) (activities book) b lt e

-- a link that is gone over is met where what it comes to is covered
pub met_open : (usable within covered : Bool) → usable ≡ true → within ≡ true → covered ≡ (not (usable && within) || covered)
met_open usable within covered on fits = ap (λ (t : Bool). not t || covered) (sym (ap (λ (t : Bool). t && within) on ∙ fits))
