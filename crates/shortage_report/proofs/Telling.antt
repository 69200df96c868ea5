-- A shortage can be told. The empty route is legal for each aircraft and has nothing of what is asked, so no most is negative. What is
-- due is at most the number of asked activities, and these are activities of the book, none of them twice, so there are few.
use Rattle.std.proofs.Common.{◌≢◌, ℕ, zero, suc, ℤ, pos, ◌≤ℤ◌, ◌<◌, ◌≤◌, Bool, true, false, cond, arith, List, [], length}
use Rattle.std.proofs.lemmas.Int.{ints}
use Rattle.std.proofs.lemmas.List.Elements.{All-from_get_or}
use Rattle.std.specs.Prelude.{All, AllPairs}
use Rattle.tail_book.specs.Lookup.{activities}
use Rattle.tail_book.specs.Numbers.{contains}
use Rattle.tail_book.specs.Seen.{BookSeen}
use Rattle.tail_book.specs.Sums.{sum_below}
use Rattle.plan_shortage.proofs.Shares.{share, shares_below}
use Rattle.plan_shortage.specs.Shortage.{IsMost, ShortagesLeaveNoPlan, most_of}
use Rattle.shortage_report.specs.declared.why.Why.TheVariants.{Feasible, Short, Nothing}
use Rattle.shortage_report.specs.inside.Laws.{ShortagesCanBeTold, TrueWhysLeaveNoPlan}

-- no most is negative
never_negative : (book : BookSeen) (k : ℕ) (asked brought : List ℕ) (most : ℤ) → IsMost book k asked brought most → pos 0 ≤ℤ most
never_negative book k asked brought most is = is.none_above [] tt

-- numbers below n, none of them twice, are at most n
one_share : (b : Bool) → pos (cond b 1 0) ≤ℤ pos 1
one_share true = omega (arith, ints)
one_share false = omega (arith, ints)

at_most_one_each : (n : ℕ) (f : ℕ → ℤ) → ((a : ℕ) → f a ≤ℤ pos 1) → sum_below n f ≤ℤ pos n
at_most_one_each zero f small = omega (arith, ints)
at_most_one_each (suc n) f small =
    let first = small 0 in
    let rest = at_most_one_each n (λ a. f (suc a)) (λ a. small (suc a)) in
    omega (arith, ints, first, rest)

few : (n : ℕ) (list : List ℕ) → All (λ a. a < n) list → AllPairs (λ a b. a ≢ b) list → length list ≤ n
few n list below once =
    let all = shares_below n list below once in
    let most = at_most_one_each n (share list) (λ a. one_share (contains list a)) in
    omega (arith, ints, all, most)

pub can_be_told : ShortagesCanBeTold
can_be_told book sound cause asked brought mosts is of_cause = record {
  of_cause = of_cause;
  of_asked = is.of_asked.of_book;
  of_brought = is.of_brought.of_book;
  shares = record {
    one_each = is.are_mosts.one_each;
    none_below = All-from_get_or (λ most. pos 0 ≤ℤ most) mosts (pos 0) (λ k lt.
        never_negative book k asked brought (most_of mosts k) (is.are_mosts.each k (omega (arith, lt, is.are_mosts.one_each))));
    small =
        let asked_few = few (activities book) asked is.of_asked.of_book is.of_asked.none_twice in
        omega (arith, ints, is.short, asked_few, sound.few_activities);
  };
}

-- what is told of no legal plan leaves none
pub leave_no_plan : ShortagesLeaveNoPlan → TrueWhysLeaveNoPlan
leave_no_plan law book Feasible truth of = absurd of
leave_no_plan law book (Short found) truth of = law book found.asked.items found.brought.items found.mosts.items truth
leave_no_plan law book (Nothing uncovered) truth of = truth.0
