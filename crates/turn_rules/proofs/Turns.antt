-- A turn takes no less than no time, so where there is a link, the aircraft is free before the activity starts.
use Rattle.std.proofs.Common.{ℕ, pos, ◌≤ℤ◌, ◌<◌, arith}
use Rattle.std.proofs.lemmas.Int.{ints}
use Rattle.std.proofs.lemmas.List.Elements.{All-get_or}
use Rattle.tail_book.specs.Seen.{BookSeen}
use Rattle.tail_book.specs.declared.place.Place.{Place}
use Rattle.tail_book.specs.declared.place.Place.TheVariants.{Carry, After}
use Rattle.tail_book.specs.Lookup.{aircraft, no_tail, no_type, kind_of}
use Rattle.tail_book.specs.Link.{IsLink, turn_time}
use Rattle.tail_book.specs.inside.Sound.{IsBook, IsKind}
use Rattle.tail_book.proofs.Rise.{chosen}
use Rattle.turn_rules.specs.inside.FreeBefore.{IsFreeBefore}

turn_takes : (book : BookSeen) → IsBook book → (k : ℕ) → k < aircraft book → (x : Place) (b : ℕ) → pos 0 ≤ℤ turn_time book k x b
turn_takes book sound k lt Carry b = omega (arith, ints)
turn_takes book sound k lt (After x) b =
    chosen _ _ _ (All-get_or IsKind book.rules.kinds (kind_of book k) no_type (sound.tails k no_tail lt).kind sound.rules.kinds).turn.least

pub time_left : (book : BookSeen) → IsBook book → (k : ℕ) (x : Place) (b : ℕ) → IsLink book k x b → IsFreeBefore book k x b
time_left book sound k x b link =
    let turn = turn_takes book sound k link.after.aircraft x b in
    let time = link.time in
    omega (arith, ints, turn, time)
