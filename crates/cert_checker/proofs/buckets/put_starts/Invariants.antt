use Rattle.std.proofs.Common.{◌<◌, ◌≤◌, ◌≡◌, ℕ, length, get_or}
use Rattle.tail_book.specs.Lookup.{activities}
use Rattle.cert_checker.specs.inside.Buckets.{IsStart, at_in}
use Rattle.cert_checker.proofs.buckets.put_starts.Given as goal

-- where the labels of the activities below b begin is written, and those before the last such place are of earlier activities
abbrev pub invariant-loop-b : goal.invariant-loop-b
invariant-loop-b l = (l.from ≤ length l.family) × ((i : ℕ) → i < l.from → at_in l.family i < l.b)
    × (length l.starts ≡ activities l.book) × ((a : ℕ) → a < l.b → IsStart l.family a (get_or l.starts a 0))
