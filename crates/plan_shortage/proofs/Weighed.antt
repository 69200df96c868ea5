-- Where nothing costs anything, a legal route weighs a cost unit less for each asked activity and one more for each
-- brought one: so a least weight is that of a route with the most, and each aircraft has one, since with no marks each
-- legal route fits.
use Rattle.std.proofs.Common.{◌≡◌, ℕ, ℤ, pos, ◌+◌, ◌*◌, ◌+ℤ◌, ◌-ℤ◌, ◌≤ℤ◌, ◌<◌, ◌≤◌, Bool, true, false, cond, arith, List, [], ◌∷◌, get_or, replicate, refl}
use Rattle.std.proofs.lemmas.Int.{ints}
use Rattle.std.proofs.lemmas.List.Elements.{All-map, All-nil, All-replicate}
use Rattle.std.proofs.lemmas.List.FromFn.{length-map-range_with_len, get_or-map-range_with_len}
use Rattle.std.specs.Prelude.{All}
use Rattle.std.specs.List.{range_with_len}
use Rattle.tail_book.specs.Seen.{BookSeen}
use Rattle.tail_book.specs.declared.place.Place.{Place}
use Rattle.tail_book.specs.declared.place.Place.TheVariants.{Carry, After}
use Rattle.tail_book.specs.Numbers.{contains}
use Rattle.tail_book.specs.Lookup.{activities, aircraft, carry_of}
use Rattle.tail_book.specs.Link.{IsAllowedAt}
use Rattle.tail_book.specs.Route.{IsLegalFrom, IsLegalRoute}
use Rattle.tail_book.specs.CostTable.{IsInBox, activity_cost_in, connection_cost_in, cost_from_in, box_end}
use Rattle.tail_book.proofs.Timed.{everywhere}
use Rattle.branch_marks.specs.Marks.{IsAliveAt, FitsFrom, Fits}
use Rattle.branch_marks.specs.DeadEnds.{IsStuck}
use Rattle.branch_marks.specs.Settled.{AreDuals}
use Rattle.branch_marks.specs.Weights.{dual, duals_on, weight, IsLeastWeight, IsRouteOfWeight}
use Rattle.plan_shortage.specs.Shortage.{had, surplus, IsMost}
use Rattle.plan_shortage.specs.inside.Pricing.{costless, unit_if, unit_dual, unit_duals}
use Rattle.plan_shortage.proofs.Due.{had_more}

-- the duals

unit_most : (b : Bool) → unit_if b ≤ 1000
unit_most true = omega arith
unit_most false = omega arith

costless_box : (book : BookSeen) → box_end (costless book) ≡ 1000
costless_box book = let none : activities book * (0 + 0) ≡ 0 = omega arith in rw none refl

pub duals_in_box : (book : BookSeen) (asked brought : List ℕ) → AreDuals (costless book) book (unit_duals asked brought (activities book))
duals_in_box book asked brought = record {
  one_each = length-map-range_with_len (unit_dual asked brought) 0 (activities book);
  box = All-map (IsInBox (costless book)) (unit_dual asked brought) (range_with_len 0 (activities book)) (λ i d lt. in_box (get_or (range_with_len 0 (activities book)) i d));
}
  where
    in_box : (a : ℕ) → IsInBox (costless book) (unit_dual asked brought a)
    in_box a =
        let end = costless_box book in let more = unit_most (contains asked a) in let less = unit_most (contains brought a) in record {
          least = rw end (omega (arith, ints, more, less));
          most = rw end (omega (arith, ints, more, less));
        }

-- routes

module _ (book : BookSeen) (k : ℕ) where
  -- with no marks a legal route fits
  alive_at : (x : Place) → IsAllowedAt book k x → IsAliveAt book [] k x
  alive_at Carry h = h
  alive_at (After x) h = record { allowed = h; facts = All-nil _ }

  fits_from : (x : Place) (values : List ℤ) (route : List ℕ) → IsLegalFrom book k x values route → FitsFrom book [] k x route
  fits_from x values [] legal = All-nil _
  fits_from x values (b ∷ rest) legal =
      let link = legal.1 in (
        record {
          link = link;
          before = alive_at x link.before;
          after = record { allowed = link.after; facts = All-nil _ };
          facts = All-nil _;
        },
        fits_from (After b) _ rest legal.3,
      )

  pub legal_fits : (route : List ℕ) → IsLegalRoute book k route → Fits book [] k route
  legal_fits route legal = fits_from Carry (carry_of book k) route legal

  -- so no aircraft is stuck: the empty route is legal
  pub never_stuck : ¬ IsStuck book [] k
  never_stuck stuck = stuck [] tt (legal_fits [] tt)

  -- nothing costs anything
  costs_nothing : (x : Place) (route : List ℕ) → cost_from_in (costless book) book k x route ≡ 0
  costs_nothing x [] = refl
  costs_nothing x (b ∷ rest) =
      let entries : All (λ (c : ℕ). c ≤ 0) (replicate (activities book * aircraft book) 0) = All-replicate (λ (c : ℕ). c ≤ 0) (activities book * aircraft book) 0 (omega arith) in
      let here : activity_cost_in (costless book) k b ≤ 0 =
      everywhere (λ c. c ≤ 0) (λ c. c ≤ 0) 0 (omega arith) (λ c h. h) (replicate (activities book * aircraft book) 0) entries (k * activities book + b) in
      none (activity_cost_in (costless book) k b) (connection_cost_in (costless book) book k x b) (cost_from_in (costless book) book k (After b) rest)
      here (no_connection x b) (costs_nothing (After b) rest)
    where
      no_connection : (x : Place) (b : ℕ) → connection_cost_in (costless book) book k x b ≡ 0
      no_connection Carry b = refl
      no_connection (After x) b = refl

      none : (here link rest : ℕ) → here ≤ 0 → link ≡ 0 → rest ≡ 0 → here + link + rest ≡ 0
      none here link rest h i j = omega (arith, h, i, j)

  module _ (asked brought : List ℕ) where
    abbrev duals : List ℤ
    duals = unit_duals asked brought (activities book)

    dual_is : (a : ℕ) → a < activities book → dual duals a ≡ unit_dual asked brought a
    dual_is a lt = get_or-map-range_with_len (unit_dual asked brought) 0 (activities book) a a (pos 0) lt (omega arith)

    unit_is : (b : Bool) → unit_if b ≡ 1000 * cond b 1 0
    unit_is true = refl
    unit_is false = refl

    -- a route saves a cost unit for each asked activity, less one for each brought one
    saves : (x : Place) (values : List ℤ) (route : List ℕ) → IsLegalFrom book k x values route
        → duals_on duals route ≡ pos (1000 * had asked route) -ℤ pos (1000 * had brought route)
    saves x values [] legal = omega (arith, ints)
    saves x values (b ∷ rest) legal =
        added (dual duals b) (duals_on duals rest) (unit_if (contains asked b)) (unit_if (contains brought b)) (cond (contains asked b) 1 0) (cond (contains brought b) 1 0)
        (had asked (b ∷ rest)) (had brought (b ∷ rest)) (had asked rest) (had brought rest)
        (dual_is b legal.0) (saves (After b) _ rest legal.3) (unit_is (contains asked b)) (unit_is (contains brought b)) (had_more asked b rest) (had_more brought b rest)
      where
        added : (here rest : ℤ) (more less one other asked_all brought_all asked_rest brought_rest : ℕ) → here ≡ pos more -ℤ pos less
            → rest ≡ pos (1000 * asked_rest) -ℤ pos (1000 * brought_rest) → more ≡ 1000 * one → less ≡ 1000 * other
            → asked_all ≡ one + asked_rest → brought_all ≡ other + brought_rest → here +ℤ rest ≡ pos (1000 * asked_all) -ℤ pos (1000 * brought_all)
        added here rest more less one other asked_all brought_all asked_rest brought_rest h i j l m n = omega (arith, ints, h, i, j, l, m, n)

    -- so it weighs that much less than nothing
    weighs : (route : List ℕ) → IsLegalRoute book k route → weight (costless book) book k duals route ≡ pos (1000 * had brought route) -ℤ pos (1000 * had asked route)
    weighs route legal = turned (cost_from_in (costless book) book k Carry route) (duals_on duals route) (had asked route) (had brought route)
        (costs_nothing Carry route) (saves Carry (carry_of book k) route legal)
      where
        turned : (cost : ℕ) (saved : ℤ) (more less : ℕ) → cost ≡ 0 → saved ≡ pos (1000 * more) -ℤ pos (1000 * less)
            → pos (1000 * cost) -ℤ saved ≡ pos (1000 * less) -ℤ pos (1000 * more)
        turned cost saved more less h i = omega (arith, ints, h, i)

    -- a route of least weight has the most
    pub lightest_has_most : (value : ℤ) (route : List ℕ) → IsLeastWeight (costless book) book [] k duals value
        → IsRouteOfWeight (costless book) book [] k duals value route → IsMost book k asked brought (surplus asked brought route)
    lightest_has_most value route least is = record {
      none_above = λ other legal.
          compared value (weight (costless book) book k duals other) (weight (costless book) book k duals route) (had asked other) (had brought other) (had asked route) (had brought route)
          (least.least other legal (legal_fits other legal)) (weighs other legal) is.weighs (weighs route is.legal);
      attained = (route, is.legal, refl);
    }
      where
        compared : (value other own : ℤ) (asked_other brought_other asked_own brought_own : ℕ) → value ≤ℤ other → other ≡ pos (1000 * brought_other) -ℤ pos (1000 * asked_other)
            → own ≡ value → own ≡ pos (1000 * brought_own) -ℤ pos (1000 * asked_own) → (pos asked_other -ℤ pos brought_other) ≤ℤ (pos asked_own -ℤ pos brought_own)
        compared value other own asked_other brought_other asked_own brought_own h i j l = omega (arith, ints, h, i, j, l)
