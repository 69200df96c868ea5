-- The row of predecessors as a list by places. What stands at a place is linked to b for some aircraft, and so it is of
-- the book and before b; and each activity that is linked to b stands at a place. So to go over the row misses no link
-- to b.
use Rattle.std.proofs.Common.{◌≡◌, ℕ, ◌<◌, true, List, length, get_or, sym, ◌∙◌, ap, subst}
use Rattle.tail_book.specs.Seen.{BookSeen}
use Rattle.tail_book.specs.declared.place.Place.TheVariants.{Carry, After}
use Rattle.tail_book.specs.Lookup.{activities, aircraft}
use Rattle.tail_book.specs.Link.{IsLink}
use Rattle.tail_book.specs.Numbers.{contains}
use Rattle.tail_book.specs.inside.Rising.{LinksRise}
use Rattle.tail_book.specs.inside.RouteBounds.{RisingRoutesAreBelow}
use Rattle.tail_book.specs.inside.Sound.{IsBook}
use Rattle.connection_net.specs.Seen.{NetSeen}
use Rattle.connection_net.specs.Net.{net_of, predecessors_in}
use Rattle.connection_net.specs.inside.Laws.{PredecessorsAreLinks, RowsAreTheirPlaces, RowsRise}

module _ (places : RowsAreTheirPlaces) (links : PredecessorsAreLinks) (book : BookSeen) (net : NetSeen) (of_book : net ≡ net_of book) (b : ℕ)
    (row : List ℕ) (is : row ≡ predecessors_in net b) where
  row_is : row ≡ predecessors_in (net_of book) b
  row_is = is ∙ ap (λ (n : NetSeen). predecessors_in n b) of_book

  -- what stands at a place is of the book and before b
  pub predecessor : RisingRoutesAreBelow → RowsRise book → LinksRise → IsBook book → b < activities book
      → (i : ℕ) → i < length row → (get_or row i 0 < activities book) × (get_or row i 0 < b)
  predecessor below rises rise sound hb i lt =
      let x = get_or row i 0 in
      let hx : x < activities book =
      subst (λ (r : List ℕ). i < length r → get_or r i 0 < activities book) (sym row_is)
      (λ within. below (activities book) Carry (predecessors_in (net_of book) b) (rises.predecessors b) i 0 within) lt in
      let (k, _, link) = (links book x b).0 (subst (λ (r : List ℕ). contains r x ≡ true) row_is (places.has row i 0 lt)) in
      (hx, rise book sound k x b hx hb link)

  -- what is linked stands at a place
  pub place_of_predecessor : (k x : ℕ) → k < aircraft book → IsLink book k (After x) b → (q : ℕ) × (q < length row) × (get_or row q 0 ≡ x)
  place_of_predecessor k x hk link =
      places.stands row x (subst (λ (r : List ℕ). contains r x ≡ true) (sym row_is) ((links book x b).1 (k, hk, link)))
