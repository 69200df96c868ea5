use Rattle.std.proofs.Common.{◌≡◌, ◌++◌, drop}
use Rattle.shortage_report.specs.ShareText.{first_mark, shares_text}
use Rattle.shortage_report.proofs.shares.add_shares.Given as goal

-- the aircraft so far, and those that are left, with the mark that stands before the next
abbrev pub invariant-loop-k : goal.invariant-loop-k
invariant-loop-k l = l.initial.line ++ shares_text l.book first_mark 0 l.mosts ≡ l.line ++ shares_text l.book l.mark l.k (drop l.k l.mosts)
