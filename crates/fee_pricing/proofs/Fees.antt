-- The fees of the quotas that a connection belongs to: taken one after the other, and at most as many times the largest.
use Rattle.std.proofs.Common.{◌≡◌, ◌∙◌, ℕ, suc, ℤ, pos, ◌+◌, ◌*◌, ◌+ℤ◌, ◌≤ℤ◌, ◌<◌, Bool, true, false, arith, add-one, drop-cons, List, [], ◌∷◌, length, drop, get_or, ap, sym}
use Rattle.std.proofs.lemmas.Int.{ints}
use Rattle.std.proofs.lemmas.List.Elements.{All-head, All-tail}
use Rattle.std.specs.Prelude.{All, cond}
use Rattle.tail_book.specs.Ranges.{IsWithin}
use Rattle.tail_book.specs.Seen.{BookSeen}
use Rattle.quota_rows.specs.Belongs.{belongs}
use Rattle.quota_rows.specs.Fees.{fee_of}
use Rattle.quota_rows.specs.declared.quota.Quota.{Quota}

-- a fee that is due or not is no more than a fee
pub due : (due : Bool) (fee : ℤ) (most : ℕ) → IsWithin (pos 0) (pos most) fee → IsWithin (pos 0) (pos most) (cond due fee (pos 0))
due true fee most within = within
due false fee most within = record { least = omega (arith, ints); most = omega (arith, ints) }

-- the fees of the quotas from one on are its fee and those of the ones behind it
pub from_one : (book : BookSeen) (quotas : List Quota) (fees : List ℤ) (a b q : ℕ) (quota : Quota) → q < length quotas → length fees ≡ length quotas
    → fee_of book (drop q quotas) (drop q fees) a b
    ≡ cond (belongs book (get_or quotas q quota) a b) (get_or fees q (pos 0)) (pos 0) +ℤ fee_of book (drop (q + 1) quotas) (drop (q + 1) fees) a b
from_one book quotas fees a b q quota less same =
    ap (λ (qs : List Quota). fee_of book qs (drop q fees) a b) (drop-cons quotas q quota less)
    ∙ ap (λ (fs : List ℤ). fee_of book (get_or quotas q quota ∷ drop (suc q) quotas) fs a b) (drop-cons fees q (pos 0) (omega (arith, less, same)))
    ∙ ap (λ (n : ℕ). cond (belongs book (get_or quotas q quota) a b) (get_or fees q (pos 0)) (pos 0) +ℤ fee_of book (drop n quotas) (drop n fees) a b) (sym (add-one q))

-- so many fees together
pub fees_within : (book : BookSeen) (quotas : List Quota) (fees : List ℤ) (a b most : ℕ) → All (IsWithin (pos 0) (pos most)) fees
    → IsWithin (pos 0) (pos (length quotas * most)) (fee_of book quotas fees a b)
fees_within book [] fees a b most each = record { least = omega (arith, ints); most = omega (arith, ints) }
fees_within book (quota ∷ quotas) [] a b most each = record { least = omega (arith, ints); most = omega (arith, ints) }
fees_within book (quota ∷ quotas) (fee ∷ fees) a b most each =
    let here = due (belongs book quota a b) fee most (All-head (IsWithin (pos 0) (pos most)) fee fees each) in
    let rest = fees_within book quotas fees a b most (All-tail (IsWithin (pos 0) (pos most)) fee fees each) in
    added (cond (belongs book quota a b) fee (pos 0)) (fee_of book quotas fees a b) most (length quotas) here.least here.most rest.least rest.most
  where
    added : (d t : ℤ) (m n : ℕ) → pos 0 ≤ℤ d → d ≤ℤ pos m → pos 0 ≤ℤ t → t ≤ℤ pos (n * m) → IsWithin (pos 0) (pos (suc n * m)) (d +ℤ t)
    added d t m n p q r s = record { least = omega (arith, ints, p, r); most = omega (arith, ints, q, s) }
