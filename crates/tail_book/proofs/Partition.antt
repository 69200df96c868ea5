-- What the routes of a legal plan have, all together: each activity of the book once, and nothing else.
--
-- That activities are of the book goes by induction on each route, and that each is flown once is a part of a legal
-- plan. So the list of all that is flown is a partition, and what `Sums` says of sums and lengths holds of it.
use Rattle.std.proofs.Common.{◌≡◌, ℕ, ℤ, ◌+ℤ◌, ◌<◌, arith, List, [], ◌∷◌, map, length, refl, ap, sym, ◌∙◌}
use Rattle.std.proofs.lemmas.List.{map-append}
use Rattle.std.proofs.lemmas.List.Elements.{All-head, All-tail, All-cons, All-append, All-from_get_or}
use Rattle.std.specs.Prelude.{All}
use Rattle.tail_book.specs.Seen.{BookSeen}
use Rattle.tail_book.specs.declared.place.Place.{Place}
use Rattle.tail_book.specs.declared.place.Place.TheVariants.{Carry, After}
use Rattle.tail_book.specs.Lookup.{activities, carry_of}
use Rattle.tail_book.specs.Counters.{step}
use Rattle.tail_book.specs.Route.{IsLegalFrom}
use Rattle.tail_book.specs.Plan.{IsLegalPlan, route_of}
use Rattle.tail_book.specs.Sums.{total, sum_below}
use Rattle.tail_book.specs.inside.Sums.{IsPartition}
use Rattle.tail_book.specs.inside.Partition.{all_flown}
use Rattle.tail_book.proofs.Sums.{total_of_two, total_of_partition, length_of_partition}

-- the activities of a legal route are of the book
pub legal_of_book : (book : BookSeen) (k : ℕ) (x : Place) (values : List ℤ) (route : List ℕ) → IsLegalFrom book k x values route → All (λ a. a < activities book) route
legal_of_book book k x values [] legal = λ i d lt. absurd (omega (arith, lt))
legal_of_book book k x values (b ∷ rest) legal =
    All-cons (λ a. a < activities book) b rest legal.0 (legal_of_book book k (After b) (step book k x b values) rest legal.3)

pub plan_of_book : (book : BookSeen) (plan : List (List ℕ)) → IsLegalPlan book plan → All (All (λ a. a < activities book)) plan
plan_of_book book plan legal = All-from_get_or (All (λ a. a < activities book)) plan []
    (λ i lt. legal_of_book book i Carry (carry_of book i) (route_of plan i) (legal.routes i (omega (arith, legal.one_each, lt))))

-- what holds of each element of each route holds of all flown
pub each_flown : (P : ℕ → Type 0) (plan : List (List ℕ)) → All (All P) plan → All P (all_flown plan)
each_flown P [] each = λ i d lt. absurd (omega (arith, lt))
each_flown P (route ∷ plan) each = All-append P route (all_flown plan) (All-head (All P) route plan each) (each_flown P plan (All-tail (All P) route plan each))

pub plan_parts : (book : BookSeen) (plan : List (List ℕ)) → IsLegalPlan book plan → IsPartition (activities book) (all_flown plan)
plan_parts book plan legal = record { below = each_flown (λ a. a < activities book) plan (plan_of_book book plan legal); once = legal.partition }

pub all_are_flown : (book : BookSeen) (plan : List (List ℕ)) → IsLegalPlan book plan → length (all_flown plan) ≡ activities book
all_are_flown book plan legal = length_of_partition (activities book) (all_flown plan) (plan_parts book plan legal)

pub total_of_routes : (f : ℕ → ℤ) (plan : List (List ℕ)) → total (map (λ route. total (map f route)) plan) ≡ total (map f (all_flown plan))
total_of_routes f [] = refl
total_of_routes f (route ∷ plan) =
    ap (λ t. total (map f route) +ℤ t) (total_of_routes f plan) ∙ sym (total_of_two (map f route) (map f (all_flown plan)))
    ∙ sym (ap total (map-append f route (all_flown plan)))

pub total_of_legal_plan : (book : BookSeen) (f : ℕ → ℤ) (plan : List (List ℕ)) → IsLegalPlan book plan
    → total (map (λ route. total (map f route)) plan) ≡ sum_below (activities book) f
total_of_legal_plan book f plan legal = total_of_routes f plan ∙ total_of_partition (activities book) f (all_flown plan) (plan_parts book plan legal)
