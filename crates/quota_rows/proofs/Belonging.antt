-- The test of belonging decides its fact, part by part.
use Rattle.std.specs.Prelude.{◌-ℤ◌}
use Rattle.std.proofs.Common.{ℕ}
use Rattle.std.proofs.lemmas.Bool.Decides.{Decides-eqb, Decides-and, Decides-like}
use Rattle.std.specs.Bool.{Decides}
use Rattle.std.specs.Cmp.{signed_Decides}
use Rattle.tail_book.specs.Seen.{BookSeen}
use Rattle.tail_book.specs.Lookup.{from_port, start_of, end_of}
use Rattle.tail_book.proofs.Deciding.{int_lt_tested}
use Rattle.quota_rows.specs.Belongs.{Belongs, belongs, day_of}
use Rattle.quota_rows.specs.declared.quota.Quota.{Quota}

pub belongs_tested : (book : BookSeen) (quota : Quota) (a b : ℕ) → Decides (belongs book quota a b) (Belongs book quota a b)
unfolding belongs
belongs_tested book quota a b =
    Decides-like (belongs book quota a b) (λ h. record { airport = h.0; day = h.1.0; short = h.1.1 }) (λ r. (r.airport, (r.day, r.short)))
    (Decides-and _ _ (Decides-eqb (from_port book b) quota.airport) (Decides-and _ _ (signed_Decides (day_of (start_of book b)) quota.day)
    (int_lt_tested (start_of book b -ℤ end_of book a) quota.below)))
