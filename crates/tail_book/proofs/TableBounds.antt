-- What a legal plan costs by a table at most: for each activity the most that an entry and a band cost.
--
-- An entry that is looked up keeps the table's maximum, and so does a band; where there is none, the cost is 0. Routes
-- and plans go by induction, and a legal plan flies as many activities as the table has.
use Rattle.std.proofs.Common.{◌≡◌, ℕ, ℤ, suc, ◌+◌, ◌*◌, ◌≤◌, arith, List, [], ◌∷◌, length}
use Rattle.std.proofs.lemmas.List.{length-append}
use Rattle.std.specs.Prelude.{All}
use Rattle.std.specs.List.{flat_map}
use Rattle.tail_book.specs.Seen.{BookSeen}
use Rattle.tail_book.specs.TableSeen.{CostTableSeen}
use Rattle.tail_book.specs.Numbers.{int_le}
use Rattle.tail_book.specs.declared.rules.Band.{Band}
use Rattle.tail_book.specs.declared.place.Place.{Place}
use Rattle.tail_book.specs.declared.place.Place.TheVariants.{Carry, After}
use Rattle.tail_book.specs.Link.{gap}
use Rattle.tail_book.specs.Cost.{band_cost}
use Rattle.tail_book.specs.Plan.{IsLegalPlan}
use Rattle.tail_book.specs.CostTable.{IsCostTable, IsTableFor, activity_cost_in, connection_cost_in, cost_from_in, cost_of_routes_in, plan_cost_in, greatest_cost_in}
use Rattle.tail_book.specs.inside.Partition.{all_flown}
use Rattle.tail_book.specs.inside.Sound.{IsBook}
use Rattle.tail_book.proofs.Timed.{everywhere}
use Rattle.tail_book.proofs.Costs.{found}
use Rattle.tail_book.proofs.Partition.{all_are_flown}

-- what one activity with its connection costs at most
abbrev most_each : CostTableSeen → ℕ
most_each table = table.fly_max + table.band_max

entry_most : (table : CostTableSeen) → IsCostTable table → (k a : ℕ) → activity_cost_in table k a ≤ table.fly_max
entry_most table sound k a = everywhere (λ c. c ≤ table.fly_max) (λ c. c ≤ table.fly_max) 0 (omega arith) (λ c h. h) table.fly sound.fly (k * table.n + a)

-- no band's cost is above what each band's is at most
pub bands_most : (bands : List Band) (most : ℕ) → All (λ band. band.cost ≤ most) bands → (minutes : ℤ) → band_cost bands minutes ≤ most
bands_most bands most all minutes =
    found (λ (band : Band). band.cost ≤ most) (λ (n : ℕ). n ≤ most) (λ band. band.cost) 0 (λ band h. h) (omega arith) (λ band. int_le minutes band.upto) bands all

band_most : (table : CostTableSeen) (book : BookSeen) → IsCostTable table → (k : ℕ) (x : Place) (b : ℕ) → connection_cost_in table book k x b ≤ table.band_max
band_most table book sound k Carry b = omega arith
band_most table book sound k (After x) b = bands_most table.bands table.band_max sound.bands (gap book k (After x) b)

pub route_most_in : (table : CostTableSeen) (book : BookSeen) → IsCostTable table → (k : ℕ) (x : Place) (route : List ℕ) → cost_from_in table book k x route ≤ length route * most_each table
route_most_in table book sound k x [] = omega arith
route_most_in table book sound k x (b ∷ rest) =
    added _ _ _ (length rest) table.fly_max table.band_max (entry_most table sound k b) (band_most table book sound k x b) (route_most_in table book sound k (After b) rest)
  where
    added : (a c r n f m : ℕ) → a ≤ f → c ≤ m → r ≤ n * (f + m) → a + c + r ≤ suc n * (f + m)
    added a c r n f m h i j = omega (arith, h, i, j)

plan_most : (table : CostTableSeen) (book : BookSeen) → IsCostTable table → (k : ℕ) (plan : List (List ℕ))
    → cost_of_routes_in table book k plan ≤ length (all_flown plan) * most_each table
plan_most table book sound k [] = omega arith
plan_most table book sound k (route ∷ plan) =
    joined _ _ (length route) (length (all_flown plan)) _ (most_each table) (route_most_in table book sound k Carry route) (plan_most table book sound (k + 1) plan)
    (length-append route (flat_map (λ r. r) plan))
  where
    joined : (a b m n l c : ℕ) → a ≤ m * c → b ≤ n * c → l ≡ m + n → a + b ≤ l * c
    joined a b m n l c h i e = rw e (omega (arith, h, i))

pub cost_most_in : (book : BookSeen) (table : CostTableSeen) → IsBook book → IsCostTable table → IsTableFor book table
    → (plan : List (List ℕ)) → IsLegalPlan book plan → plan_cost_in table book plan ≤ greatest_cost_in table
cost_most_in book table sound costs for plan legal =
    same _ _ _ _ (most_each table) (plan_most table book costs 0 plan) (all_are_flown book plan legal) for.activities
  where
    same : (p l n m c : ℕ) → p ≤ l * c → l ≡ n → m ≡ n → p ≤ m * c
    same p l n m c h e f = rw (f, ← e) h
