-- The row of successors as a list by places. What stands at a place is of the book and behind its activity, and each
-- that is linked stands at a place, so whoever may come next is in the row. It is the same with the heads and the
-- carry-in.
use Rattle.std.proofs.Common.{◌≡◌, ℕ, ◌<◌, true, List, length, get_or, sym, ◌∙◌, ap, subst}
use Rattle.tail_book.specs.Seen.{BookSeen}
use Rattle.tail_book.specs.declared.place.Place.TheVariants.{Carry, After}
use Rattle.tail_book.specs.Lookup.{activities, aircraft}
use Rattle.tail_book.specs.Link.{IsLink}
use Rattle.tail_book.specs.Numbers.{contains}
use Rattle.tail_book.specs.inside.Rising.{IsRisingFrom}
use Rattle.tail_book.specs.inside.RouteBounds.{RisingRoutesAreBelow}
use Rattle.tail_book.specs.inside.Sound.{IsBook}
use Rattle.connection_net.specs.Seen.{NetSeen}
use Rattle.connection_net.specs.Net.{net_of, successors_in, heads_in}
use Rattle.connection_net.specs.inside.Laws.{SuccessorsAreLinks, SuccessorsFollow, HeadsAreLinks, RowsAreTheirPlaces, RowsRise}
use Rattle.branch_marks.specs.declared.fact.Fact.{Fact}
use Rattle.route_search.specs.inside.Followers.{AreFollowers}

module _ (places : RowsAreTheirPlaces) (book : BookSeen) (net : NetSeen) (of_book : net ≡ net_of book) (row : List ℕ) where
  module _ (x : ℕ) (is : row ≡ successors_in net x) where
    row_is : row ≡ successors_in (net_of book) x
    row_is = is ∙ ap (λ (n : NetSeen). successors_in n x) of_book

    -- what stands at a place is of the book and behind x
    successor : RisingRoutesAreBelow → RowsRise book → SuccessorsFollow → IsBook book
        → (i : ℕ) → i < length row → (get_or row i 0 < activities book) × (x < get_or row i 0)
    successor below rises follow sound i lt = (
      subst (λ (r : List ℕ). i < length r → get_or r i 0 < activities book) (sym row_is)
          (λ within. below (activities book) Carry (successors_in (net_of book) x) (rises.successors x) i 0 within) lt,
      follow book sound x (get_or row i 0) (subst (λ (r : List ℕ). contains r (get_or row i 0) ≡ true) row_is (places.has row i 0 lt)),
    )

    -- what is linked stands at a place
    place_of_successor : SuccessorsAreLinks → (k b : ℕ) → k < aircraft book → IsLink book k (After x) b → (q : ℕ) × (q < length row) × (get_or row q 0 ≡ b)
    place_of_successor links k b hk link =
        places.stands row b (subst (λ (r : List ℕ). contains r b ≡ true) (sym row_is) ((links book x b).1 (k, hk, link)))

    -- and so whoever may come next is in the row
    pub all_successors : RisingRoutesAreBelow → RowsRise book → SuccessorsFollow → IsBook book → SuccessorsAreLinks
        → (marks : List Fact) (k : ℕ) → k < aircraft book → AreFollowers book marks k x row
    all_successors below rises follow sound links marks k hk = record {
      each = λ i lt. successor below rises follow sound i lt;
      all = λ b usable. place_of_successor links k b hk usable.link;
    }

    -- the row rises
    pub successors_rise : RowsRise book → IsRisingFrom (activities book) Carry row
    successors_rise rises = subst (IsRisingFrom (activities book) Carry) (sym row_is) (rises.successors x)

  module _ (k : ℕ) (is : row ≡ heads_in net k) where
    heads_are : row ≡ heads_in (net_of book) k
    heads_are = is ∙ ap (λ (n : NetSeen). heads_in n k) of_book

    -- what stands at a place of the heads is of the book
    pub head : RisingRoutesAreBelow → RowsRise book → (i : ℕ) → i < length row → get_or row i 0 < activities book
    head below rises i lt =
        subst (λ (r : List ℕ). i < length r → get_or r i 0 < activities book) (sym heads_are)
        (λ within. below (activities book) Carry (heads_in (net_of book) k) (rises.heads k) i 0 within) lt

    -- and what may come first stands at a place
    pub place_of_head : HeadsAreLinks → (b : ℕ) → IsLink book k Carry b → (q : ℕ) × (q < length row) × (get_or row q 0 ≡ b)
    place_of_head links b link = places.stands row b (subst (λ (r : List ℕ). contains r b ≡ true) (sym heads_are) ((links book k b).1 link))
