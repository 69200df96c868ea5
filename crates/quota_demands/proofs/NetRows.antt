-- Rows of a network by places: what stands at a place is of the book, and what is linked stands at one.
use Rattle.std.proofs.Common.{◌≡◌, ◌∙◌, ℕ, ◌<◌, true, List, length, get_or, sym, ap, subst}
use Rattle.tail_book.specs.Seen.{BookSeen}
use Rattle.tail_book.specs.declared.place.Place.TheVariants.{Carry}
use Rattle.tail_book.specs.Link.{IsLink}
use Rattle.tail_book.specs.Lookup.{activities}
use Rattle.tail_book.specs.Numbers.{contains}
use Rattle.tail_book.specs.inside.Rising.{IsRisingFrom}
use Rattle.connection_net.specs.Seen.{NetSeen}
use Rattle.connection_net.specs.Net.{net_of, heads_in, predecessors_in}
use Rattle.connection_net.specs.inside.Laws.{HeadsAreLinks, PredecessorsAreLinks, RowsAreTheirPlaces, RowsRise, SomeLink}

module _ (places : RowsAreTheirPlaces) (book : BookSeen) (rises : RowsRise book) (net : NetSeen) (of_book : net ≡ net_of book) (row : List ℕ) where
  pub predecessor_of_book : (b : ℕ) → row ≡ predecessors_in net b → (i : ℕ) → i < length row → get_or row i 0 < activities book
  predecessor_of_book b is i lt =
      let same = is ∙ ap (λ (n : NetSeen). predecessors_in n b) of_book in
      places.below (activities book) Carry row (get_or row i 0) (subst (λ (r : List ℕ). IsRisingFrom (activities book) Carry r) (sym same) (rises.predecessors b))
      (places.has row i 0 lt)

  pub predecessor_stands : PredecessorsAreLinks → (b : ℕ) → row ≡ predecessors_in net b → (a : ℕ) → SomeLink book a b
      → (i : ℕ) × (i < length row) × (get_or row i 0 ≡ a)
  predecessor_stands links b is a some =
      let same = is ∙ ap (λ (n : NetSeen). predecessors_in n b) of_book in
      places.stands row a (subst (λ (r : List ℕ). contains r a ≡ true) (sym same) ((links book a b).1 some))

  pub head_of_book : (k : ℕ) → row ≡ heads_in net k → (i : ℕ) → i < length row → get_or row i 0 < activities book
  head_of_book k is i lt =
      let same = is ∙ ap (λ (n : NetSeen). heads_in n k) of_book in
      places.below (activities book) Carry row (get_or row i 0) (subst (λ (r : List ℕ). IsRisingFrom (activities book) Carry r) (sym same) (rises.heads k))
      (places.has row i 0 lt)

  pub head_stands : HeadsAreLinks → (k : ℕ) → row ≡ heads_in net k → (b : ℕ) → IsLink book k Carry b → (i : ℕ) × (i < length row) × (get_or row i 0 ≡ b)
  head_stands links k is b link =
      let same = is ∙ ap (λ (n : NetSeen). heads_in n k) of_book in
      places.stands row b (subst (λ (r : List ℕ). contains r b ≡ true) (sym same) ((links book k b).1 link))
