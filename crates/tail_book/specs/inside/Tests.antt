-- That each test of LegalTests is true exactly where its fact holds, for src/laws.rt.
use Rattle.std.specs.Prelude.{ℕ, ℤ, List}
use Rattle.std.specs.Bool.{Decides}
use Rattle.tail_book.specs.Seen.{CounterSeen, BookSeen}
use Rattle.tail_book.specs.declared.place.Place.{Place}
use Rattle.tail_book.specs.Allowed.{IsAllowed}
use Rattle.tail_book.specs.Link.{IsLink}
use Rattle.tail_book.specs.Counters.{WithinLimits}
use Rattle.tail_book.specs.Route.{IsLegalRoute}
use Rattle.tail_book.specs.Plan.{IsLegalPlan}
use Rattle.tail_book.specs.LegalTests.{is_allowed, is_link, within_limits, is_legal_route, is_legal_plan}

-- each test is true exactly where its fact holds
abbrev pub AllowedDecides : Type 0
AllowedDecides = (book : BookSeen) (k a : ℕ) → Decides (is_allowed book k a) (IsAllowed book k a)

abbrev pub LinkDecides : Type 0
LinkDecides = (book : BookSeen) (k : ℕ) (x : Place) (b : ℕ) → Decides (is_link book k x b) (IsLink book k x b)

abbrev pub LimitsDecide : Type 0
LimitsDecide = (counters : List CounterSeen) (values : List ℤ) → Decides (within_limits counters values) (WithinLimits counters values)

abbrev pub LegalRouteDecides : Type 0
LegalRouteDecides = (book : BookSeen) (k : ℕ) (route : List ℕ) → Decides (is_legal_route book k route) (IsLegalRoute book k route)

abbrev pub LegalPlanDecides : Type 0
LegalPlanDecides = (book : BookSeen) (plan : List (List ℕ)) → Decides (is_legal_plan book plan) (IsLegalPlan book plan)
