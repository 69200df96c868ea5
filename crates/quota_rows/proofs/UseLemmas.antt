-- Uses counted over the routes of a plan. A route uses a quota no more often than it has activities, so a plan's uses are no
-- more than its activities.
use Rattle.std.specs.Prelude.{cond}
use Rattle.std.proofs.Common.{◌≡◌, ◌<◌, ◌≤◌, ℕ, ◌+◌, Bool, true, false, List, [], ◌∷◌, length, length-append, drop, get_or, refl, arith}
use Rattle.std.proofs.lemmas.List.{drop_more}
use Rattle.tail_book.specs.Seen.{BookSeen}
use Rattle.tail_book.specs.declared.place.Place.{Place}
use Rattle.tail_book.specs.declared.place.Place.TheVariants.{Carry, After}
use Rattle.tail_book.specs.inside.Partition.{all_flown}
use Rattle.quota_rows.specs.Belongs.{belongs_at}
use Rattle.quota_rows.specs.KeptPlans.{uses, uses_from, uses_in}
use Rattle.quota_rows.specs.declared.quota.Quota.{Quota}

-- one route more of a plan
pub routes_step : (book : BookSeen) (quota : Quota) (plan : List (List ℕ)) (k : ℕ) (route : List ℕ) → k < length plan → get_or plan k route ≡ route
    → uses book quota (drop k plan) ≡ uses_in book quota route + uses book quota (drop (k + 1) plan)
routes_step book quota plan k route within e = rw (drop_more plan k route within, e) refl

once : (c : Bool) (n m : ℕ) → n ≤ m → cond c 1 0 + n ≤ m + 1
once true n m le = omega (arith, le)
once false n m le = omega (arith, le)

uses_few : (book : BookSeen) (quota : Quota) (x : Place) (route : List ℕ) → uses_from book quota x route ≤ length route
uses_few book quota x [] = omega arith
uses_few book quota x (b ∷ rest) =
    let most = once (belongs_at book quota x b) (uses_from book quota (After b) rest) (length rest) (uses_few book quota (After b) rest) in
    omega (arith, most)

pub plan_uses_few : (book : BookSeen) (quota : Quota) (plan : List (List ℕ)) → uses book quota plan ≤ length (all_flown plan)
plan_uses_few book quota [] = omega arith
plan_uses_few book quota (route ∷ plan) =
    omega (arith, length-append route (all_flown plan), uses_few book quota Carry route, plan_uses_few book quota plan)
