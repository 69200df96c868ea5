-- Waiting labels: what is ahead in a line stays ahead over one departure.
-- While the other has waited from lo to hi minutes its band and what the stop has cleared are those of lo minutes. The one
-- that is ahead has waited at least lo minutes: what lo clears is cleared for it too, and more may be, which only helps. And
-- it costs no more: in a lasting window no later stay does, and in another one it arrived no earlier, so it is in step.
use Rattle.std.proofs.Common.{ℕ, ℤ, pos, ◌+◌, ◌*◌, ◌+ℤ◌, ◌-ℤ◌, ◌≤ℤ◌, ◌<ℤ◌, ◌≤◌, inl, inr, Bool, true, false, cond, arith, refl, List, [], ◌∷◌}
use Rattle.std.proofs.lemmas.Int.{ints}
use Rattle.std.proofs.lemmas.List.Elements.{All-head, All-tail}
use Rattle.std.specs.Prelude.{All, ◌⊎◌, ◌&&◌, ◌≡◌}
use Rattle.tail_book.specs.Seen.{BookSeen, CounterSeen}
use Rattle.tail_book.specs.declared.place.Place.TheVariants.{After}
use Rattle.tail_book.specs.declared.rules.Band.{Band}
use Rattle.tail_book.specs.declared.rules.CounterKind.{CounterKind}
use Rattle.tail_book.specs.declared.rules.CounterKind.TheVariants.{Minutes, Landings, Days}
use Rattle.tail_book.specs.declared.limits.TheConstants.{COUNT_LIMIT}
use Rattle.tail_book.specs.Numbers.{contains, int_le}
use Rattle.tail_book.specs.Lookup.{from_port, start_of, end_of}
use Rattle.tail_book.specs.Cost.{band_cost}
use Rattle.tail_book.specs.Counters.{step_from, step_one, flown}
use Rattle.tail_book.specs.Link.{gap}
use Rattle.tail_book.specs.CostTable.{activity_cost_in}
use Rattle.tail_book.specs.CounterOrder.{EachAtMost}
use Rattle.tail_book.specs.Ranges.{IsWithin}
use Rattle.branch_marks.specs.Weights.{dual}
use Rattle.pricing.specs.inside.Lines.{EndsOutside, StopsOutside, keys, key_one, WaitingKeepsOrder}

-- a counter that waiting leaves alone; fx, fy and fl: cleared for the one, for the other, and by lo minutes
counted : (reset fx fy fl : Bool) (v w f : ℤ) → (fy ≡ true → fl ≡ true) → (fl ≡ true → fx ≡ true) → pos 0 ≤ℤ w
    → cond fl (pos 0) v ≤ℤ cond fl (pos 0) w
    → cond reset (pos 0) (cond fx (pos 0) v +ℤ f) ≤ℤ cond reset (pos 0) (cond fy (pos 0) w +ℤ f)
counted true fx fy fl v w f up down least h = omega (arith, ints)
counted false true true fl v w f up down least h = omega (arith, ints)
counted false true false fl v w f up down least h = omega (arith, ints, least)
counted false false fy true v w f up down least h = absurd (grind (arith, down))
counted false false true false v w f up down least h = absurd (grind (arith, up))
counted false false false false v w f up down least h = omega (arith, ints, h)

-- days
dated : (reset fx fy fl : Bool) (v w start end ex ey : ℤ) → (fy ≡ true → fl ≡ true) → (fl ≡ true → fx ≡ true) → pos 0 ≤ℤ w
    → pos 0 ≤ℤ (start -ℤ ey) → cond fl (pos 0) (v -ℤ ex) ≤ℤ cond fl (pos 0) (w -ℤ ey)
    → cond reset (pos 0) (cond fx (pos 0) v +ℤ (end -ℤ cond fx start ex)) ≤ℤ cond reset (pos 0) (cond fy (pos 0) w +ℤ (end -ℤ cond fy start ey))
dated true fx fy fl v w start end ex ey up down least after h = omega (arith, ints)
dated false true true fl v w start end ex ey up down least after h = omega (arith, ints)
dated false true false fl v w start end ex ey up down least after h = omega (arith, ints, least, after)
dated false false fy true v w start end ex ey up down least after h = absurd (grind (arith, down))
dated false false true false v w start end ex ey up down least after h = absurd (grind (arith, up))
dated false false false false v w start end ex ey up down least after h = omega (arith, ints, h)

-- what the other's stay clears lo minutes clear, and what lo minutes clear any longer stay does
cleared_up : (based : Bool) (stop lo hi g : ℤ) → (based ≡ true → (stop ≤ℤ lo) ⊎ (hi ≤ℤ stop)) → g <ℤ hi
    → (based && int_le stop g) ≡ true → (based && int_le stop lo) ≡ true
cleared_up true stop lo hi g flat below h = elim (flat refl) [
  | inl le ↦ grind (arith, ints, le)
  | inr le ↦ absurd (grind (arith, ints, le, below, h))
]
cleared_up false stop lo hi g flat below h = h

cleared_down : (based : Bool) (stop lo g : ℤ) → lo ≤ℤ g → (based && int_le stop lo) ≡ true → (based && int_le stop g) ≡ true
cleared_down true stop lo g le h = grind (arith, ints, le, h)
cleared_down false stop lo g le h = h

abbrev IsCount : ℤ → Type 0
IsCount value = IsWithin (pos 0) COUNT_LIMIT value

module _ (book : BookSeen) (k : ℕ) (lo hi : ℤ) (x y b : ℕ)
    (least : pos 0 ≤ℤ lo) (after_x : lo ≤ℤ gap book k (After x) b) (after_y : lo ≤ℤ gap book k (After y) b) (below : gap book k (After y) b <ℤ hi) where
  one_ahead : (c : ℕ) (kind : CounterKind) (limit stop : ℤ) (name bases : List ℕ) (v w : ℤ)
      → (contains bases (from_port book b) ≡ true → (stop ≤ℤ lo) ⊎ (hi ≤ℤ stop)) → pos 0 ≤ℤ w
      → key_one (from_port book b) lo (end_of book x) (record { name = name; kind = kind; limit = limit; bases = bases; stop = stop }) v
      ≤ℤ key_one (from_port book b) lo (end_of book y) (record { name = name; kind = kind; limit = limit; bases = bases; stop = stop }) w
      → step_one book k (After x) b c (record { name = name; kind = kind; limit = limit; bases = bases; stop = stop }) v
      ≤ℤ step_one book k (After y) b c (record { name = name; kind = kind; limit = limit; bases = bases; stop = stop }) w
  one_ahead c Minutes limit stop name bases v w flat positive h =
      counted _ _ _ _ v w (flown book b) (cleared_up _ stop lo hi _ flat below) (cleared_down _ stop lo _ after_x) positive h
  one_ahead c Landings limit stop name bases v w flat positive h =
      counted _ _ _ _ v w _ (cleared_up _ stop lo hi _ flat below) (cleared_down _ stop lo _ after_x) positive h
  one_ahead c Days limit stop name bases v w flat positive h =
      dated _ _ _ _ v w (start_of book b) (end_of book b) (end_of book x) (end_of book y) (cleared_up _ stop lo hi _ flat below) (cleared_down _ stop lo _ after_x) positive
      (omega (arith, ints, least, after_y)) h

  -- all counters, from number c on
  steps_ahead : (c : ℕ) (counters : List CounterSeen) (vs ws : List ℤ)
      → All (StopsOutside (from_port book b) lo hi) counters
      → All IsCount ws
      → EachAtMost (keys (from_port book b) lo (end_of book x) counters vs) (keys (from_port book b) lo (end_of book y) counters ws)
      → EachAtMost (step_from book k (After x) b c counters vs) (step_from book k (After y) b c counters ws)
  steps_ahead c [] vs ws flat positive h = tt
  steps_ahead c (counter ∷ counters) [] [] flat positive h = tt
  steps_ahead c (counter ∷ counters) [] (w ∷ ws) flat positive h = absurd h
  steps_ahead c (counter ∷ counters) (v ∷ vs) [] flat positive h = absurd h
  steps_ahead c (counter ∷ counters) (v ∷ vs) (w ∷ ws) flat positive h =
      let count = All-head IsCount w ws positive in (
        one_ahead c counter.kind counter.limit counter.stop counter.name counter.bases v w (All-head (StopsOutside (from_port book b) lo hi) counter counters flat) count.least h.0,
        steps_ahead (c + 1) counters vs ws (All-tail (StopsOutside (from_port book b) lo hi) counter counters flat) (All-tail IsCount w ws positive) h.1,
      )

-- a band reaches so many minutes, or not, and does so all the way from lo to hi
reaches_alike : (upto lo hi g l : ℤ) → (upto <ℤ lo) ⊎ (hi ≤ℤ (upto +ℤ pos 1)) → lo ≤ℤ g → g <ℤ hi → lo ≤ℤ l → l <ℤ hi → int_le g upto ≡ int_le l upto
reaches_alike upto lo hi g l flat le lt le' lt' = elim flat [
  | inl less ↦ grind (arith, ints, less, le, le')
  | inr more ↦ grind (arith, ints, more, lt, lt')
]

-- so stays of lo up to hi minutes cost alike
costs_alike : (bands : List Band) (lo hi g l : ℤ) → All (EndsOutside lo hi) bands → lo ≤ℤ g → g <ℤ hi → lo ≤ℤ l → l <ℤ hi
    → band_cost bands g ≡ band_cost bands l
costs_alike [] lo hi g l flat le lt le' lt' = refl
costs_alike (band ∷ bands) lo hi g l flat le lt le' lt' =
    let same : int_le g band.upto ≡ int_le l band.upto = reaches_alike band.upto lo hi g l (All-head (EndsOutside lo hi) band bands flat) le lt le' lt' in
    let rest : band_cost bands g ≡ band_cost bands l = costs_alike bands lo hi g l (All-tail (EndsOutside lo hi) band bands flat) le lt le' lt' in
    grind (arith, same, rest)

-- no heavier, and at no higher cost on the ground
heavier : (v w d : ℤ) (a cx cy : ℕ) → v ≤ℤ w → cx ≤ cy → (v +ℤ (pos (1000 * (a + cx)) -ℤ d)) ≤ℤ (w +ℤ (pos (1000 * (a + cy)) -ℤ d))
heavier v w d a cx cy le less = omega (arith, ints, le, less)

-- what one costs on the ground, where lasting or in step
no_dearer : (bands : List Band) (lo hi gx gy ex ey : ℤ) (lasting : Bool) → All (EndsOutside lo hi) bands
    → (lasting ≡ true → (minutes : ℤ) → lo ≤ℤ minutes → band_cost bands minutes ≤ band_cost bands lo)
    → lo ≤ℤ gx → lo ≤ℤ gy → gy <ℤ hi → (ey ≤ℤ ex → gx ≤ℤ gy)
    → cond lasting (pos 0) (pos 0 -ℤ ex) ≤ℤ cond lasting (pos 0) (pos 0 -ℤ ey) → band_cost bands gx ≤ band_cost bands gy
no_dearer bands lo hi gx gy ex ey true flat steady after_x after_y below along h =
    let most = steady refl gx after_x in
    let lo_in : lo <ℤ hi = omega (arith, ints, after_y, below) in
    let lo_le : lo ≤ℤ lo = omega (arith, ints) in
    let same = costs_alike bands lo hi gy lo flat after_y below lo_le lo_in in omega (arith, most, same)
no_dearer bands lo hi gx gy ex ey false flat steady after_x after_y below along h =
    let newer : ey ≤ℤ ex = omega (arith, ints, h) in
    let short = along newer in
    let same = costs_alike bands lo hi gx gy flat after_x (omega (arith, ints, short, below)) after_y below in omega (arith, same)

pub waiting_keeps_order : WaitingKeepsOrder
waiting_keeps_order table book k duals lo hi lasting x y b [] other window after_x after_y below is_row is_other counts h = absurd is_row
waiting_keeps_order table book k duals lo hi lasting x y b (v ∷ vs) [] window after_x after_y below is_row is_other counts h = absurd is_other
waiting_keeps_order table book k duals lo hi lasting x y b (v ∷ vs) (w ∷ ws) window after_x after_y below is_row is_other counts h = (
  heavier v w (dual duals b) (activity_cost_in table k b) (band_cost table.bands (gap book k (After x) b)) (band_cost table.bands (gap book k (After y) b)) h.0
      (no_dearer table.bands lo hi (gap book k (After x) b) (gap book k (After y) b) (end_of book x) (end_of book y) lasting window.flat window.steady after_x after_y below
      (λ le. omega (arith, ints, le)) h.1.0),
  steps_ahead book k lo hi x y b window.forward after_x after_y below 0 book.rules.counters vs ws window.stops counts h.1.1,
)
