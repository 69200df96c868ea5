-- Fees: what a connection pays for each quota that it belongs to, in thousandths of a cost unit. For src/fees.rt.
use Rattle.std.specs.Prelude.{◌≡◌, ℕ, ℤ, pos, ◌+ℤ◌, ◌*ℤ◌, List, [], ◌∷◌, All, cond, length}
use Rattle.tail_book.specs.Seen.{BookSeen}
use Rattle.tail_book.specs.TableSeen.{CostTableSeen}
use Rattle.tail_book.specs.declared.place.Place.{Place}
use Rattle.tail_book.specs.declared.place.Place.TheVariants.{Carry, After}
use Rattle.tail_book.specs.CostTable.{box_end}
use Rattle.tail_book.specs.Ranges.{IsWithin}
use Rattle.quota_rows.specs.Belongs.{belongs}
use Rattle.quota_rows.specs.declared.quota.Quota.{Quota}

-- a fee for each quota, in the order of the quotas
pub record FeesSeen : Type 0 where
  pub values : List ℤ

-- the fee is not negative, and at most the end of the box of duals
abbrev pub IsFee : CostTableSeen → ℤ → Type 0
IsFee table fee = IsWithin (pos 0) (pos (box_end table)) fee

-- a fee for each of the quotas, each in its box
pub record AreFees (table : CostTableSeen) (quotas : List Quota) (fees : List ℤ) : Type 0 where
  pub one_each : length fees ≡ length quotas
  pub box : All (IsFee table) fees

-- the fee of the connection from a to b: the fees of the quotas that it belongs to, all together
abbrev pub fee_of : BookSeen → List Quota → List ℤ → ℕ → ℕ → ℤ
fee_of book [] fees a b = pos 0
fee_of book (quota ∷ quotas) [] a b = pos 0
fee_of book (quota ∷ quotas) (fee ∷ fees) a b = cond (belongs book quota a b) fee (pos 0) +ℤ fee_of book quotas fees a b

-- the fee of the connection from a place to b; that from a carry-in pays none
abbrev pub fee_at : BookSeen → List Quota → List ℤ → Place → ℕ → ℤ
fee_at book quotas fees Carry b = pos 0
fee_at book quotas fees (After a) b = fee_of book quotas fees a b

-- the fees of the rest of a route, from a place on
abbrev pub fees_from : BookSeen → List Quota → List ℤ → Place → List ℕ → ℤ
fees_from book quotas fees x [] = pos 0
fees_from book quotas fees x (b ∷ rest) = fee_at book quotas fees x b +ℤ fees_from book quotas fees (After b) rest

-- the fees of a route's connections, all together
abbrev pub fees_on : BookSeen → List Quota → List ℤ → List ℕ → ℤ
fees_on book quotas fees route = fees_from book quotas fees Carry route

-- what the fees come to where each quota is used as often as it may be
abbrev pub fees_at_most : List Quota → List ℤ → ℤ
fees_at_most [] fees = pos 0
fees_at_most (quota ∷ quotas) [] = pos 0
fees_at_most (quota ∷ quotas) (fee ∷ fees) = pos quota.most *ℤ fee +ℤ fees_at_most quotas fees
