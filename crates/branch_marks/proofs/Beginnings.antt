-- The beginnings of an aircraft's routes: usable links one after the other, within the limits. Those that end before some
-- activity are listed by recursion on its number, for links rise: each is one that ended earlier, or one to which the activity
-- before comes last.
use Rattle.std.proofs.Common.{◌≡◌, ℕ, zero, suc, ◌≤◌, refl, Bool, true, List, [], ◌∷◌, ◌++◌, map, get_or}
use Rattle.std.proofs.lemmas.Bool.{and_from, and_parts}
use Rattle.std.proofs.lemmas.List.Elements.{All-nil, All-cons, All-append, All-map, All-filter, All-contains, Contains-append_right, filter_passes}
use Rattle.std.specs.Prelude.{◌&&◌, All}
use Rattle.std.specs.List.{Contains, filter}
use Rattle.tail_book.specs.Seen.{BookSeen}
use Rattle.tail_book.specs.declared.place.Place.TheVariants.{Carry}
use Rattle.tail_book.specs.Counters.{step, WithinLimits}
use Rattle.tail_book.specs.Route.{IsLegalRoute}
use Rattle.tail_book.specs.inside.OneMore.{end_place, LegalWithOneMore}
use Rattle.tail_book.specs.inside.Route.{counters_after}
use Rattle.tail_book.specs.LegalTests.{within_limits}
use Rattle.tail_book.specs.inside.Tests.{LimitsDecide}
use Rattle.branch_marks.specs.declared.fact.Fact.{Fact}
use Rattle.branch_marks.specs.Marks.{IsUsable}
use Rattle.branch_marks.specs.inside.Fitting.{IsUsableFrom, UsableWithOneMore}
use Rattle.branch_marks.specs.MarkTests.{is_usable}
use Rattle.branch_marks.specs.inside.MarkTests.{UsableDecides}
use Rattle.branch_marks.proofs.WholeLists.{kept, first_contained, map_contained, filter_contained}

-- aircraft k can go on from the route's end to b
abbrev pub goes_on_to : BookSeen → List Fact → ℕ → ℕ → List ℕ → Bool
goes_on_to book marks k b route =
    is_usable book marks k (end_place route) b && within_limits book.rules.counters (step book k (end_place route) b (counters_after book k route))

abbrev pub with_last : ℕ → List ℕ → List ℕ
with_last b route = route ++ b ∷ []

-- the beginnings whose activities are all below a number
abbrev pub beginnings : BookSeen → List Fact → ℕ → ℕ → List (List ℕ)
beginnings book marks k zero = [] ∷ []
beginnings book marks k (suc b) = beginnings book marks k b ++ map (with_last b) (filter (goes_on_to book marks k b) (beginnings book marks k b))

-- those of them that go on to it
abbrev pub beginnings_to : BookSeen → List Fact → ℕ → ℕ → List (List ℕ)
beginnings_to book marks k b = filter (goes_on_to book marks k b) (beginnings book marks k b)

-- the route is legal, and its links are usable; the aircraft need not be able to end at its end
pub record IsBeginning (book : BookSeen) (marks : List Fact) (k : ℕ) (route : List ℕ) : Type 0 where
  pub legal : IsLegalRoute book k route
  pub usable : IsUsableFrom book marks k Carry route

pub record GoesOnTo (book : BookSeen) (marks : List Fact) (k b : ℕ) (route : List ℕ) : Type 0 where
  pub usable : IsUsable book marks k (end_place route) b
  pub within : WithinLimits book.rules.counters (step book k (end_place route) b (counters_after book k route))

module _ (book : BookSeen) (marks : List Fact) (k : ℕ) where
  -- a beginning stays one of them as the number grows
  pub beginning_kept : (route : List ℕ) (m n : ℕ) → m ≤ n → Contains (beginnings book marks k m) route → Contains (beginnings book marks k n) route
  beginning_kept route = kept (beginnings book marks k) (λ b. map (with_last b) (beginnings_to book marks k b)) (λ b. refl) route

  pub empty_begins : Contains (beginnings book marks k 0) []
  empty_begins = first_contained [] []

  -- what goes on to b, with b
  pub longer_begins : (b : ℕ) (route : List ℕ) → Contains (beginnings_to book marks k b) route → Contains (beginnings book marks k (suc b)) (route ++ b ∷ [])
  longer_begins b route has =
      Contains-append_right (beginnings book marks k b) (map (with_last b) (beginnings_to book marks k b)) (route ++ b ∷ [])
      (map_contained (with_last b) (beginnings_to book marks k b) route has)

  module _ (usable : UsableDecides) (limits : LimitsDecide) where
    pub passes : (b : ℕ) (route : List ℕ) → goes_on_to book marks k b route ≡ true → GoesOnTo book marks k b route
    passes b route e =
        let (u, w) = and_parts (is_usable book marks k (end_place route) b) (within_limits book.rules.counters (step book k (end_place route) b (counters_after book k route))) e in
        record { usable = (usable book marks k (end_place route) b).0 u; within = (limits book.rules.counters (step book k (end_place route) b (counters_after book k route))).0 w }

    -- what is among those that go on to b does
    pub goes_on : (b : ℕ) (route : List ℕ) → Contains (beginnings_to book marks k b) route → GoesOnTo book marks k b route
    goes_on b route has = passes b route
        (All-contains (λ (r : List ℕ). goes_on_to book marks k b r ≡ true) (beginnings_to book marks k b) route (filter_passes (goes_on_to book marks k b) (beginnings book marks k b)) has)

    -- and the other way round
    pub goes_on_contained : (b : ℕ) (route : List ℕ) → Contains (beginnings book marks k b) route → GoesOnTo book marks k b route → Contains (beginnings_to book marks k b) route
    goes_on_contained b route has goes =
        filter_contained (goes_on_to book marks k b) (beginnings book marks k b) route has
        (and_from (is_usable book marks k (end_place route) b) (within_limits book.rules.counters (step book k (end_place route) b (counters_after book k route)))
        ((usable book marks k (end_place route) b).1 goes.usable) ((limits book.rules.counters (step book k (end_place route) b (counters_after book k route))).1 goes.within))

    module _ (more_legal : LegalWithOneMore) (more_usable : UsableWithOneMore) where
      pub longer_is_beginning : (b : ℕ) (route : List ℕ) → IsBeginning book marks k route → GoesOnTo book marks k b route → IsBeginning book marks k (route ++ b ∷ [])
      longer_is_beginning b route is goes = record {
        legal = (more_legal book k route b).1 (record { before = is.legal; link = goes.usable.link; within = goes.within });
        usable = (more_usable book marks k Carry route b).1 (is.usable, goes.usable);
      }

      pub are_beginnings : (n : ℕ) → All (IsBeginning book marks k) (beginnings book marks k n)
      are_beginnings zero = All-cons (IsBeginning book marks k) [] [] (record { legal = tt; usable = tt }) (All-nil (IsBeginning book marks k))
      are_beginnings (suc b) =
          All-append (IsBeginning book marks k) (beginnings book marks k b) (map (with_last b) (beginnings_to book marks k b)) (are_beginnings b)
          (All-map (IsBeginning book marks k) (with_last b) (beginnings_to book marks k b) (λ i d less.
          longer_is_beginning b (get_or (beginnings_to book marks k b) i d)
          (All-filter (goes_on_to book marks k b) (IsBeginning book marks k) (beginnings book marks k b) (are_beginnings b) i d less)
          (passes b (get_or (beginnings_to book marks k b) i d) (filter_passes (goes_on_to book marks k b) (beginnings book marks k b) i d less))))

      pub is_beginning_to : (b : ℕ) (route : List ℕ) → Contains (beginnings_to book marks k b) route → IsBeginning book marks k route
      is_beginning_to b route has =
          All-contains (IsBeginning book marks k) (beginnings_to book marks k b) route
          (All-filter (goes_on_to book marks k b) (IsBeginning book marks k) (beginnings book marks k b) (are_beginnings b)) has
