use Rattle.std.proofs.Common.{◌+◌, ◌*◌, ◌-◌, ◌≡◌, ◌<◌, ◌++◌, ◌∷◌, [], ℕ, take}
use Rattle.tail_book.specs.Lookup.{activities, aircraft}
use Rattle.plan_enumeration.specs.inside.Enumeration.{AgreesBelow, HasTried, IsBest, IsTrial, KeepsBest}
use Rattle.plan_enumeration.proofs.enumerate.+assign.Given as goal

-- the activities that are left
abbrev pub decreases-assign_to : goal.decreases-assign_to
decreases-assign_to l = 2 * (activities l.book.now - l.a)

abbrev pub decreases-assign_from : goal.decreases-assign_from
decreases-assign_from l = 2 * (activities l.book.now - l.a) + 1

-- all that goes on with an aircraft below k was tried, and the trial stands as it stood
abbrev pub invariant-assign_from-loop-k : goal.invariant-assign_from-loop-k
invariant-assign_from-loop-k l = record {
  best : IsBest l.book l.best;
  kept : KeepsBest l.book l.fn.best l.best;
  tried : (j : ℕ) → j < l.k → HasTried l.book l.best (take l.a l.fn.trial.fliers.items ++ j ∷ []);
  trial : IsTrial l.book l.a l.trial;
  agrees : AgreesBelow l.book l.a l.fn.trial l.trial;
  in_book : l.a < activities l.book;
  each_aircraft : l.k-end ≡ aircraft l.book;
}
