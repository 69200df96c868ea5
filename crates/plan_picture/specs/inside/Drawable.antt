-- Which plans can be drawn, and how far the numbers of a picture go. For src/picture.rt, src/rows.rt and others.
use Rattle.std.specs.Prelude.{ℕ, ℤ, pos, ◌-ℤ◌, ◌≡◌, ◌<◌, All, List, length}
use Rattle.tail_book.specs.Seen.{BookSeen}
use Rattle.tail_book.specs.Lookup.{activities, aircraft}
use Rattle.tail_book.specs.Ranges.{IsWithin}
use Rattle.tail_book.specs.inside.Sound.{IsOffset}
use Rattle.plan_audit.specs.declared.broken.Broken.{Broken}
use Rattle.plan_report.specs.inside.AuditText.{IsOfBook}
use Rattle.plan_picture.specs.declared.stretches.Stretch.{Stretch}

-- a moment from a day before the calendar on, to beyond its end
abbrev pub IsNear : ℤ → Type 0
IsNear z = IsWithin (pos 0 -ℤ pos 1440) (pos 1000000000) z

-- clocks at most 14 hours from UTC, and moments of a picture
pub record IsStretch (stretch : Stretch) : Type 0 where
  pub first : IsNear stretch.first
  pub offset : IsOffset stretch.offset
  pub from : IsNear stretch.from
  pub to : IsNear stretch.to

-- a route of activities of the book for each aircraft, and broken rules whose numbers are of the book
pub record IsDrawable (book : BookSeen) (plan : List (List ℕ)) (rules : List Broken) : Type 0 where
  pub one_each : length plan ≡ aircraft book
  pub activities : All (All (λ a. a < activities book)) plan
  pub of_book : All (IsOfBook book) rules
