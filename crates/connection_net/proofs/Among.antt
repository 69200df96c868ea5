-- A link stays at one airport: so successors and heads are among that airport's departures, and predecessors among its arrivals.
use Rattle.std.proofs.Common.{◌≡◌, ℕ, ◌<◌, arith, sym, true, [], length}
use Rattle.std.specs.Prelude.{All, nat_eq, slice_index_or}
use Rattle.std.specs.List.{filter, range_with_len}
use Rattle.std.proofs.lemmas.Bool.{and_parts, eq-eqb, eqb-true}
use Rattle.std.proofs.lemmas.List.Elements.{All-filter}
use Rattle.std.proofs.lemmas.List.FromFn.{length-range_with_len, get_or-range_with_len, length-map-range_with_len, get_or-map-range_with_len}
use Rattle.tail_book.specs.Seen.{BookSeen}
use Rattle.tail_book.specs.declared.place.Place.{Place}
use Rattle.tail_book.specs.declared.place.Place.TheVariants.{Carry, After}
use Rattle.tail_book.specs.Lookup.{activities, aircraft, from_port, to_port, tail_of}
use Rattle.tail_book.specs.Link.{port, is_connected}
use Rattle.tail_book.specs.LegalTests.{is_link}
use Rattle.connection_net.specs.inside.LinkTable.{departures_of, arrivals_of, all_departures_of, all_arrivals_of}
use Rattle.connection_net.specs.Net.{is_linked, successors_of, predecessors_of, heads_of}
use Rattle.connection_net.proofs.Filters.{filter_within}
use Rattle.connection_net.proofs.Links.{any_below}

-- the lists of an airport
pub departures_length : (book : BookSeen) → length (all_departures_of book) ≡ length book.rules.airports
unfolding all_departures_of
departures_length book = length-map-range_with_len (departures_of book) 0 (length book.rules.airports)

pub arrivals_length : (book : BookSeen) → length (all_arrivals_of book) ≡ length book.rules.airports
unfolding all_arrivals_of
arrivals_length book = length-map-range_with_len (arrivals_of book) 0 (length book.rules.airports)

pub departures_at : (book : BookSeen) (p : ℕ) → p < length book.rules.airports → slice_index_or (all_departures_of book) p [] ≡ departures_of book p
unfolding all_departures_of
departures_at book p lt = get_or-map-range_with_len (departures_of book) 0 (length book.rules.airports) p p [] lt (omega arith)

pub arrivals_at : (book : BookSeen) (p : ℕ) → p < length book.rules.airports → slice_index_or (all_arrivals_of book) p [] ≡ arrivals_of book p
unfolding all_arrivals_of
arrivals_at book p lt = get_or-map-range_with_len (arrivals_of book) 0 (length book.rules.airports) p p [] lt (omega arith)

-- they have activities of the book
range_below : (n : ℕ) → All (λ i. i < n) (range_with_len 0 n)
range_below n = λ k d lt.
    let here : k < n = omega (arith, lt, length-range_with_len 0 n) in
    omega (arith, here, get_or-range_with_len 0 n k d here)

pub departures_below : (book : BookSeen) (p : ℕ) → All (λ b. b < activities book) (departures_of book p)
unfolding departures_of
departures_below book p = All-filter (λ b. nat_eq p (from_port book b)) (λ b. b < activities book) (range_with_len 0 (activities book)) (range_below (activities book))

pub arrivals_below : (book : BookSeen) (p : ℕ) → All (λ a. a < activities book) (arrivals_of book p)
unfolding arrivals_of
arrivals_below book p = All-filter (λ a. nat_eq p (to_port book a)) (λ a. a < activities book) (range_with_len 0 (activities book)) (range_below (activities book))

-- a link stays at the airport of its place
link_there : (book : BookSeen) (k : ℕ) (x : Place) (b : ℕ) → is_link book k x b ≡ true → nat_eq (port book k x) (from_port book b) ≡ true
unfolding is_link is_connected
link_there book k x b h = (and_parts (nat_eq (port book k x) (from_port book b)) _ (and_parts (is_connected book k x b) _ h).0).0

linked_there : (book : BookSeen) (a b : ℕ) → is_linked book a b ≡ true → nat_eq (to_port book a) (from_port book b) ≡ true
linked_there book a b h =
    let one = (any_below (λ k. is_link book k (After a) b) (aircraft book)).0 h in
    link_there book one.0 (After a) b one.2

turned_round : (p q : ℕ) → nat_eq p q ≡ true → nat_eq q p ≡ true
turned_round p q h = eq-eqb q p (sym (eqb-true p q h))

pub successors_among : (book : BookSeen) (a : ℕ) → filter (is_linked book a) (departures_of book (to_port book a)) ≡ successors_of book a
unfolding departures_of successors_of
successors_among book a = filter_within (is_linked book a) (λ b. nat_eq (to_port book a) (from_port book b)) (linked_there book a) (range_with_len 0 (activities book))

pub predecessors_among : (book : BookSeen) (b : ℕ) → filter (λ a. is_linked book a b) (arrivals_of book (from_port book b)) ≡ predecessors_of book b
unfolding arrivals_of predecessors_of
predecessors_among book b =
    filter_within (λ a. is_linked book a b) (λ a. nat_eq (from_port book b) (to_port book a)) (λ a h. turned_round _ _ (linked_there book a b h)) (range_with_len 0 (activities book))

pub heads_among : (book : BookSeen) (k : ℕ) → filter (is_link book k Carry) (departures_of book (tail_of book k).at) ≡ heads_of book k
unfolding departures_of heads_of
heads_among book k = filter_within (is_link book k Carry) (λ b. nat_eq (tail_of book k).at (from_port book b)) (link_there book k Carry) (range_with_len 0 (activities book))
