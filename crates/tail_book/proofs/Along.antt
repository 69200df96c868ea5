-- A route is legal exactly where it is linked and, after each of its first activities, the counters are within their
-- limits. By induction on the route from any place on.
--
-- Legality asks for link and limits at one activity after the other; here the links go by recursion, and the limits by
-- how many activities were flown, from 1 on. Behind the head that number is one less, and the counters begin with the
-- values of the head's step. That an activity is of the book is not asked apart: the link to it says so.
use Rattle.std.proofs.Common.{◌≡◌, ℕ, zero, suc, ℤ, ◌+◌, ◌<◌, ◌≤◌, arith, List, [], ◌∷◌, length, take, get_or, ap, ◌∙◌}
use Rattle.std.proofs.lemmas.List.{take_more}
use Rattle.std.specs.Prelude.{◌↔◌}
use Rattle.tail_book.specs.Seen.{BookSeen}
use Rattle.tail_book.specs.declared.place.Place.{Place}
use Rattle.tail_book.specs.declared.place.Place.TheVariants.{Carry, After}
use Rattle.tail_book.specs.Lookup.{carry_of}
use Rattle.tail_book.specs.Counters.{step, WithinLimits}
use Rattle.tail_book.specs.Route.{IsLegalFrom, IsLegalRoute}
use Rattle.tail_book.specs.inside.Route.{counters_from, counters_after}
use Rattle.tail_book.specs.inside.OneMore.{end_place}
use Rattle.tail_book.specs.inside.Along.{counters_along, IsLinkedFrom, IsLegalAlong}
use Rattle.tail_book.proofs.OneMore.{counters_more}

pub along_step : (book : BookSeen) (k : ℕ) (route : List ℕ) (i : ℕ) → i < length route
    → counters_along book k route (i + 1) ≡ step book k (end_place (take i route)) (get_or route i 0) (counters_along book k route i)
along_step book k route i lt =
    ap (counters_after book k) (take_more route i 0 lt) ∙ counters_more book k Carry (carry_of book k) (take i route) (get_or route i 0)

module _ (book : BookSeen) (k : ℕ) where
  -- after each of the first activities from a place on
  abbrev WithinAlong : Place → List ℤ → List ℕ → Type 0
  WithinAlong x values route =
      (i : ℕ) → 1 ≤ i → i ≤ length route → WithinLimits book.rules.counters (counters_from book k x values (take i route))

  links_of : (x : Place) (values : List ℤ) (route : List ℕ) → IsLegalFrom book k x values route → IsLinkedFrom book k x route
  links_of x values [] legal = tt
  links_of x values (b ∷ rest) legal = (legal.1, links_of (After b) (step book k x b values) rest legal.3)

  within_of : (x : Place) (values : List ℤ) (route : List ℕ) → IsLegalFrom book k x values route → WithinAlong x values route
  within_of x values [] legal i low high = absurd (omega (arith, low, high))
  within_of x values (b ∷ rest) legal zero low high = absurd (omega (arith, low))
  within_of x values (b ∷ rest) legal (suc zero) low high = legal.2
  within_of x values (b ∷ rest) legal (suc (suc i)) low high =
      within_of (After b) (step book k x b values) rest legal.3 (suc i) (omega arith) (omega (arith, high))

  legal_of : (x : Place) (values : List ℤ) (route : List ℕ) → IsLinkedFrom book k x route → WithinAlong x values route → IsLegalFrom book k x values route
  legal_of x values [] links within = tt
  legal_of x values (b ∷ rest) links within = (
    links.0.after.activity,
    links.0,
    within (suc zero) (omega arith) (omega arith),
    legal_of (After b) (step book k x b values) rest links.1 (λ i low high. within (suc i) (omega arith) (omega (arith, high))),
  )

  pub legal_along : (route : List ℕ) → IsLegalRoute book k route ↔ IsLegalAlong book k route
  legal_along route = (
    (λ legal.
        record {
          links = links_of Carry (carry_of book k) route legal;
          within = within_of Carry (carry_of book k) route legal;
        }),
    (λ along. legal_of Carry (carry_of book k) route along.links along.within),
  )
