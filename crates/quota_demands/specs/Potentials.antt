-- Potentials: numbers for each activity, as what comes and as what is left behind, and for each aircraft as what its carry-in leaves.
-- Where a connection's two numbers come to no more than how often it uses a quota, all of them together come to no more than how often
-- a plan does: each activity comes once, and nothing is left behind twice. For src/potentials.rt and src/laws.rt.
use Rattle.std.specs.Prelude.{◌≡◌, ℕ, ◌<◌, ℤ, pos, ◌+ℤ◌, ◌≤ℤ◌, List, All, cond, length, slice_index_or}
use Rattle.tail_book.specs.Seen.{BookSeen}
use Rattle.tail_book.specs.declared.place.Place.TheVariants.{Carry}
use Rattle.tail_book.specs.Link.{IsLink}
use Rattle.tail_book.specs.Lookup.{activities, aircraft}
use Rattle.tail_book.specs.Plan.{IsLegalPlan}
use Rattle.tail_book.specs.Sums.{total}
use Rattle.connection_net.specs.inside.Laws.{SomeLink}
use Rattle.quota_rows.specs.Belongs.{belongs}
use Rattle.quota_rows.specs.KeptPlans.{uses}
use Rattle.quota_rows.specs.declared.quota.Quota.{Quota}

-- the number at a place
abbrev pub potential : List ℤ → ℕ → ℤ
potential values i = slice_index_or values i (pos 0)

-- how often the connection from a to b uses the quota
abbrev pub use_of : BookSeen → Quota → ℕ → ℕ → ℤ
use_of book quota a b = cond (belongs book quota a b) (pos 1) (pos 0)

-- what b comes with and what a leaves are no more than their connection uses the quota, where some aircraft may fly b directly after a
abbrev pub HoldAfter : BookSeen → Quota → List ℤ → List ℤ → ℕ → Type 0
HoldAfter book quota coming leaving b = (a : ℕ) → SomeLink book a b → (potential coming b +ℤ potential leaving a) ≤ℤ use_of book quota a b

-- and no more than 0 where an aircraft begins with b
abbrev pub HoldFirst : BookSeen → List ℤ → List ℤ → ℕ → Type 0
HoldFirst book coming carried k = (b : ℕ) → IsLink book k Carry b → (potential coming b +ℤ potential carried k) ≤ℤ pos 0

-- potentials of the book for the quota; what is left behind is no gain
pub record ArePotentials (book : BookSeen) (quota : Quota) (coming leaving carried : List ℤ) : Type 0 where
  pub one_coming : length coming ≡ activities book
  pub one_leaving : length leaving ≡ activities book
  pub one_carried : length carried ≡ aircraft book
  pub leaving_low : All (λ value. value ≤ℤ pos 0) leaving
  pub carried_low : All (λ value. value ≤ℤ pos 0) carried
  pub after : (b : ℕ) → b < activities book → HoldAfter book quota coming leaving b
  pub first : (k : ℕ) → k < aircraft book → HoldFirst book coming carried k

-- all of them come to no more than how often a legal plan uses the quota
abbrev pub PotentialsBound : Type 0
PotentialsBound = (book : BookSeen) (quota : Quota) (coming leaving carried : List ℤ) → ArePotentials book quota coming leaving carried
    → (plan : List (List ℕ)) → IsLegalPlan book plan → (total coming +ℤ (total leaving +ℤ total carried)) ≤ℤ pos (uses book quota plan)
