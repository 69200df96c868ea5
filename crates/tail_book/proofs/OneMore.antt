-- A route with one activity `b` more at its end: its place, counters, costs, rise and legality.
--
-- Each of these is defined from the front, so all go by induction on the route from any place on. The empty route
-- leaves what is asked of `b` at that place, and a head takes its step and leaves the same for the rest.
use Rattle.std.proofs.Common.{◌≡◌, ℕ, ℤ, ◌+◌, ◌<◌, arith, List, [], ◌∷◌, ◌++◌, refl}
use Rattle.std.specs.Prelude.{◌↔◌}
use Rattle.tail_book.specs.Seen.{BookSeen}
use Rattle.tail_book.specs.TableSeen.{CostTableSeen}
use Rattle.tail_book.specs.declared.place.Place.{Place}
use Rattle.tail_book.specs.declared.place.Place.TheVariants.{Carry, After}
use Rattle.tail_book.specs.Lookup.{activities, carry_of}
use Rattle.tail_book.specs.Link.{IsLink}
use Rattle.tail_book.specs.Counters.{step, WithinLimits}
use Rattle.tail_book.specs.Route.{IsLegalFrom, IsLegalRoute}
use Rattle.tail_book.specs.inside.Route.{counters_from, place_after}
use Rattle.tail_book.specs.Cost.{activity_cost, connection_cost, cost_from}
use Rattle.tail_book.specs.CostTable.{activity_cost_in, connection_cost_in, cost_from_in}
use Rattle.tail_book.specs.Place.{IsBefore}
use Rattle.tail_book.specs.inside.Rising.{IsRisingFrom}
use Rattle.tail_book.specs.inside.OneMore.{GoesOnWith}

pub place_more : (x : Place) (route : List ℕ) (b : ℕ) → place_after x (route ++ b ∷ []) ≡ After b
place_more x [] b = refl
place_more x (a ∷ route) b = place_more (After a) route b

pub counters_more : (book : BookSeen) (k : ℕ) (x : Place) (values : List ℤ) (route : List ℕ) (b : ℕ)
    → counters_from book k x values (route ++ b ∷ []) ≡ step book k (place_after x route) b (counters_from book k x values route)
counters_more book k x values [] b = refl
counters_more book k x values (a ∷ route) b = counters_more book k (After a) (step book k x a values) route b

parts_added : (a c r m : ℕ) (all : ℕ) → all ≡ r + m → a + c + all ≡ a + c + r + m
parts_added a c r m all e = omega (arith, e)

pub cost_more : (book : BookSeen) (k : ℕ) (x : Place) (route : List ℕ) (b : ℕ)
    → cost_from book k x (route ++ b ∷ []) ≡ cost_from book k x route + (activity_cost book k b + connection_cost book k (place_after x route) b)
cost_more book k x [] b = omega arith
cost_more book k x (a ∷ route) b = parts_added (activity_cost book k a) (connection_cost book k x a) (cost_from book k (After a) route) _ _ (cost_more book k (After a) route b)

pub cost_more_in : (table : CostTableSeen) (book : BookSeen) (k : ℕ) (x : Place) (route : List ℕ) (b : ℕ)
    → cost_from_in table book k x (route ++ b ∷ [])
    ≡ cost_from_in table book k x route + (activity_cost_in table k b + connection_cost_in table book k (place_after x route) b)
cost_more_in table book k x [] b = omega arith
cost_more_in table book k x (a ∷ route) b =
    parts_added (activity_cost_in table k a) (connection_cost_in table book k x a) (cost_from_in table book k (After a) route) _ _
    (cost_more_in table book k (After a) route b)

pub rising_more : (n : ℕ) (x : Place) (route : List ℕ) (b : ℕ)
    → IsRisingFrom n x (route ++ b ∷ []) ↔ (IsRisingFrom n x route × IsBefore (place_after x route) b × (b < n))
rising_more n x [] b = ((λ h. (tt, h.0, h.1)), (λ h. (h.1, h.2, tt)))
rising_more n x (a ∷ route) b =
    let rest = rising_more n (After a) route b in
    ((λ h. let r = rest.0 h.2 in ((h.0, h.1, r.0), r.1, r.2)), (λ h. (h.0.0, h.0.1, rest.1 (h.0.2, h.1, h.2))))

module _ (book : BookSeen) (k : ℕ) (b : ℕ) where
  -- what is asked at the end of a route from a place on
  abbrev MayFollow : Place → List ℤ → List ℕ → Type 0
  MayFollow x values route =
      (b < activities book) × IsLink book k (place_after x route) b
      × WithinLimits book.rules.counters (step book k (place_after x route) b (counters_from book k x values route))

  legal_from_more : (x : Place) (values : List ℤ) (route : List ℕ)
      → IsLegalFrom book k x values (route ++ b ∷ []) ↔ (IsLegalFrom book k x values route × MayFollow x values route)
  legal_from_more x values [] = ((λ h. (tt, (h.0, h.1, h.2))), (λ h. (h.1.0, h.1.1, h.1.2, tt)))
  legal_from_more x values (a ∷ route) =
      let rest = legal_from_more (After a) (step book k x a values) route in
      ((λ h. let r = rest.0 h.3 in ((h.0, h.1, h.2, r.0), r.1)), (λ h. (h.0.0, h.0.1, h.0.2, rest.1 (h.0.3, h.1))))

  pub legal_more : (route : List ℕ) → IsLegalRoute book k (route ++ b ∷ []) ↔ GoesOnWith book k route b
  legal_more route =
      let whole = legal_from_more Carry (carry_of book k) route in (
        (λ h. let r = whole.0 h in record { before = r.0; link = r.1.1; within = r.1.2 }),
        (λ g. whole.1 (g.before, (g.link.after.activity, g.link, g.within))),
      )
