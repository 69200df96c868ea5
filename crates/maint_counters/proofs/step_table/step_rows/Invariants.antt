use Rattle.std.proofs.Common.{◌≡◌, ◌≤◌, ℕ, pos, ◌++◌, take, drop, get_or}
use Rattle.tail_book.specs.Counters.{step_from}
use Rattle.tail_book.specs.LegalTests.{within_limits}
use Rattle.maint_counters.specs.inside.Counts.{GrowByAStep}
use Rattle.turn_rules.specs.inside.FreeBefore.{IsFreeBefore}
use Rattle.maint_counters.proofs.step_table.step_rows.Given as goal

-- the values before c are stepped and were compared, the others stand as they were
abbrev pub invariant-loop-c : goal.invariant-loop-c
invariant-loop-c l = record {
  rest : (i : ℕ) → l.c ≤ i → get_or l.values i (pos 0) ≡ get_or l.initial.values i (pos 0);
  stepped : step_from l.book l.k l.fn.from l.b 0 l.book.rules.counters l.initial.values
      ≡ take l.c l.values ++ step_from l.book l.k l.fn.from l.b l.c (drop l.c l.book.rules.counters) (drop l.c l.initial.values);
  within : l.within ≡ within_limits (take l.c l.book.rules.counters) (take l.c l.values);
  grows : IsFreeBefore l.book l.k l.fn.from l.b → GrowByAStep l.initial.values (take l.c l.values);
}
