-- Which connections belong to a quota: the short ones at its airport on its day. For src/quota.rt.
use Rattle.std.specs.Prelude.{◌≡◌, ℕ, ◌≤◌, ◌<◌, ℤ, pos, ◌-ℤ◌, ◌<ℤ◌, Bool, false, ◌&&◌, int_lt, nat_eq, length}
use Rattle.std.specs.Bool.{Decides}
use Rattle.std.specs.Int.{int_div_euclid}
use Rattle.std.specs.Ordering.{int_eq}
use Rattle.tail_book.specs.Seen.{BookSeen}
use Rattle.tail_book.specs.declared.limits.TheConstants.{ACTIVITY_LIMIT, DAY, LAST_MOMENT, VALUE_LIMIT}
use Rattle.tail_book.specs.declared.place.Place.{Place}
use Rattle.tail_book.specs.declared.place.Place.TheVariants.{Carry, After}
use Rattle.tail_book.specs.Lookup.{from_port, start_of, end_of}
use Rattle.tail_book.specs.Ranges.{IsWithin}
use Rattle.quota_rows.specs.declared.quota.Quota.{Quota}

-- the day by UTC in which a moment lies, as days after 1970-01-01; the moment in minutes since 1970-01-01T00:00 UTC
abbrev pub day_of : ℤ → ℤ
day_of moment = int_div_euclid moment DAY

-- the connection from activity a to activity b belongs to the quota: b starts at the quota's airport, on its day, and less
-- than `below` minutes after the end of a
pub record Belongs (book : BookSeen) (quota : Quota) (a b : ℕ) : Type 0 where
  pub airport : from_port book b ≡ quota.airport
  pub day : day_of (start_of book b) ≡ quota.day
  pub short : (start_of book b -ℤ end_of book a) <ℤ quota.below

-- the same as a test
unfoldable pub belongs : BookSeen → Quota → ℕ → ℕ → Bool
belongs book quota a b =
    nat_eq (from_port book b) quota.airport
    && (int_eq (day_of (start_of book b)) quota.day && int_lt (start_of book b -ℤ end_of book a) quota.below)

-- which is true exactly where the connection belongs
abbrev pub BelongsDecides : Type 0
BelongsDecides = (book : BookSeen) (quota : Quota) (a b : ℕ) → Decides (belongs book quota a b) (Belongs book quota a b)

-- the connection from a place to b belongs to the quota; one from a carry-in belongs to none
abbrev pub belongs_at : BookSeen → Quota → Place → ℕ → Bool
belongs_at book quota Carry b = false
belongs_at book quota (After a) b = belongs book quota a b

-- a quota of the book: its airport is of the book and its day one that has moments of a book, `below` is from 1 to 10,000,000
-- minutes, and `most` at most the number of activities that a book may have
pub record IsQuotaOf (book : BookSeen) (quota : Quota) : Type 0 where
  pub airport : quota.airport < length book.rules.airports
  pub day : IsWithin (pos 0) (day_of LAST_MOMENT) quota.day
  pub below : IsWithin (pos 1) VALUE_LIMIT quota.below
  pub most : quota.most ≤ ACTIVITY_LIMIT
