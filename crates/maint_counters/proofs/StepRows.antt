-- A step by the rows of a table is the step of the book.
--
-- A step asks three things: whether the stop clears the counter, what is added, and whether the activity resets it.
-- Each reads numbers of the rows that are the book's own, so each has the book's answer. By the kind of the counter,
-- and for days by whether it was cleared.
use Rattle.std.proofs.Common.{◌≡◌, ◌∙◌, ℕ, ◌<◌, ℤ, pos, ◌+ℤ◌, ◌-ℤ◌, Bool, true, false, refl, ap, ap₂, length}
use Rattle.std.specs.Prelude.{◌&&◌, if◌then◌else◌}
use Rattle.tail_book.specs.Seen.{BookSeen}
use Rattle.tail_book.specs.declared.place.Place.{Place}
use Rattle.tail_book.specs.declared.rules.CounterKind.{CounterKind}
use Rattle.tail_book.specs.declared.rules.CounterKind.TheVariants.{Minutes, Landings, Days}
use Rattle.tail_book.specs.Numbers.{int_le}
use Rattle.tail_book.specs.Link.{free_from}
use Rattle.tail_book.specs.Counters.{is_cleared, amount, step_one}
use Rattle.turn_rules.specs.inside.NumberSet.{has}
use Rattle.maint_counters.specs.declared.step_table.ActivityRow.{ActivityRow}
use Rattle.maint_counters.specs.declared.step_table.CounterRow.{CounterRow}
use Rattle.maint_counters.specs.inside.StepTable.{IsActivityRow, IsCounterRow, added_in, clears_in, counter_of, stepped_in}

-- what is not set to 0 and was not cleared goes on
pub goes_on : (row : ActivityRow) (counter : CounterRow) (c : ℕ) (free value added : ℤ)
    → has row.resets c ≡ false → clears_in row counter c free ≡ false → added ≡ added_in row free false counter.kind
    → (value +ℤ added) ≡ stepped_in row counter c free value
goes_on row counter c free value added kept uncleared is = rw (kept, uncleared, is) refl

module _ (book : BookSeen) (k : ℕ) (x : Place) (b : ℕ) (row : ActivityRow) (free : ℤ) (is_row : IsActivityRow book b row) (is_free : free ≡ free_from book k x) where
  same_cleared : (c : ℕ) (counter : CounterRow) → c < length book.rules.counters → IsCounterRow (counter_of book c) counter
      → clears_in row counter c free ≡ is_cleared book k x b (counter_of book c)
  same_cleared c counter lt is_counter =
      ap₂ (λ p q. p && q) (is_row.based c lt) (ap₂ int_le is_counter.stop (ap₂ (λ s f. s -ℤ f) is_row.start is_free))

  same_added : (cleared : Bool) (kind : CounterKind) → added_in row free cleared kind ≡ amount book k x b cleared kind
  same_added cleared Minutes = is_row.flown
  same_added cleared Landings = is_row.landings
  same_added true Days = ap₂ (λ e s. e -ℤ s) is_row.end is_row.start
  same_added false Days = ap₂ (λ e f. e -ℤ f) is_row.end is_free

  pub same_step : (c : ℕ) (counter : CounterRow) (value : ℤ) → c < length book.rules.counters → IsCounterRow (counter_of book c) counter
      → stepped_in row counter c free value ≡ step_one book k x b c (counter_of book c) value
  same_step c counter value lt is_counter =
      let cleared = is_cleared book k x b (counter_of book c) in
      ap (λ cl. if has row.resets c then pos 0 else ((if cl then pos 0 else value) +ℤ added_in row free cl counter.kind)) (same_cleared c counter lt is_counter)
      ∙ ap (λ added. if has row.resets c then pos 0 else ((if cleared then pos 0 else value) +ℤ added)) (ap (added_in row free cleared) is_counter.kind ∙ same_added cleared (counter_of book c).kind)
      ∙ ap (λ reset. if reset then pos 0 else ((if cleared then pos 0 else value) +ℤ amount book k x b cleared (counter_of book c).kind)) (is_row.resets c)
