-- Linked activities rise in number, and so do the numbers of a legal route.
--
-- Were `b` not behind `x`, it would start no later than `x` does. But `x` lasts at least a minute, and a link wants `b`
-- to start no earlier than `x` ends. A route goes by induction from place to place; the carry-in is before any number.
use Rattle.std.proofs.Common.{ℕ, ℤ, pos, ◌≤ℤ◌, ◌<◌, ◌≤◌, Bool, true, false, arith, if◌then◌else◌, List, [], ◌∷◌}
use Rattle.std.proofs.lemmas.Int.{ints, int_max_is}
use Rattle.std.proofs.Math.Nat.{lt_of_not-le}
use Rattle.std.specs.Int.{int_max}
use Rattle.tail_book.specs.Seen.{BookSeen}
use Rattle.tail_book.specs.declared.place.Place.{Place}
use Rattle.tail_book.specs.declared.place.Place.TheVariants.{Carry, After}
use Rattle.tail_book.specs.Lookup.{activities}
use Rattle.tail_book.specs.Link.{IsLink, turn_time}
use Rattle.tail_book.specs.Route.{IsLegalFrom}
use Rattle.tail_book.specs.Place.{IsPlaceOf, IsBefore}
use Rattle.tail_book.specs.inside.Rising.{IsRisingFrom}
use Rattle.tail_book.proofs.Timed.{IsTimed}

-- the longer of two turns takes no less than no time, and neither does none
pub chosen : (turns : Bool) (z w : ℤ) → pos 0 ≤ℤ z → pos 0 ≤ℤ (if turns then int_max z w else pos 0)
chosen true z w h = omega (arith, ints, int_max_is z w)
chosen false z w h = omega (arith, ints)

turn_is : (book : BookSeen) → IsTimed book → (k x b : ℕ) → pos 0 ≤ℤ turn_time book k (After x) b
turn_is book timed k x b = chosen _ _ _ (timed.type_turns _)

pub link_rises : (book : BookSeen) → IsTimed book → (k x b : ℕ) → x < activities book → b < activities book → IsLink book k (After x) b → x < b
link_rises book timed k x b hx hb link = lt_of_not-le (λ (le : b ≤ x).
    let o = timed.ordered b x le hx in
    let l = timed.lasting x hx in
    let t = link.time in
    let z = turn_is book timed k x b in
    absurd (omega (arith, ints)))

before_of : (book : BookSeen) → IsTimed book → (k : ℕ) (x : Place) (b : ℕ) → IsPlaceOf book x → b < activities book → IsLink book k x b → IsBefore x b
before_of book timed k Carry b hx hb link = tt
before_of book timed k (After x) b hx hb link = link_rises book timed k x b hx hb link

pub rises_from : (book : BookSeen) → IsTimed book → (k : ℕ) (x : Place) (values : List ℤ) (route : List ℕ) → IsPlaceOf book x → IsLegalFrom book k x values route → IsRisingFrom (activities book) x route
rises_from book timed k x values [] hx legal = tt
rises_from book timed k x values (b ∷ rest) hx legal =
    (before_of book timed k x b hx legal.0 legal.1, legal.0, rises_from book timed k (After b) _ rest legal.0 legal.3)
