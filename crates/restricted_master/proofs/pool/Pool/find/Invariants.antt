use Rattle.std.proofs.Common.{◌≢◌, ◌<◌, ℕ, get_or, length}
use Rattle.restricted_master.specs.Pool.{entry_at}
use Rattle.restricted_master.proofs.pool.Pool.find.Given as goal

-- none so far
abbrev pub invariant-loop-q : goal.invariant-loop-q
invariant-loop-q l = (p : ℕ) → p < l.q → get_or l.numbers p 0 < length l.self.entries → entry_at l.self (get_or l.numbers p 0) ≢ record { aircraft = l.k; route = l.route }

abbrev pub invariant-loop-i : goal.invariant-loop-i
invariant-loop-i l = (j : ℕ) → j < l.i → entry_at l.self j ≢ record { aircraft = l.k; route = l.route }
