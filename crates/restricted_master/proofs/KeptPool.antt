-- A pool of which some entries are left, in their order. What is seen of the entries that pass is what passes among
-- those that are seen, so all that holds of each entry, or of each two, holds of those left: they lie within the
-- activities, have their hashes, differ, and cost what they did.
use Rattle.std.proofs.Common.{◌≡◌, ◌≢◌, ◌<◌, ℕ, arith, refl, sym, ◌∙◌, ap, ap₂, subst, Bool, true, false, cond, List, [], ◌∷◌, length, map}
use Rattle.std.specs.Prelude.{All, AllPairs, filter}
use Rattle.std.proofs.lemmas.List.Elements.{All-filter}
use Rattle.std.proofs.lemmas.List.Kept.{AllPairs-filter}
use Rattle.std.proofs.lemmas.List.Sums.{count_by-le-length, length-filter}
use Rattle.tail_book.specs.Seen.{BookSeen}
use Rattle.tail_book.specs.TableSeen.{CostTableSeen}
use Rattle.tail_book.specs.declared.place.Place.TheVariants.{Carry}
use Rattle.tail_book.specs.Lookup.{activities, aircraft}
use Rattle.tail_book.specs.inside.Rising.{IsRisingFrom}
use Rattle.branch_marks.specs.declared.fact.Fact.{Fact}
use Rattle.branch_marks.specs.Pool.{Pooled}
use Rattle.restricted_master.specs.declared.entry.Entry.{Entry}
use Rattle.restricted_master.specs.Seen.{PoolSeen}
use Rattle.restricted_master.specs.Pool.{entry_cost, IsPoolFor}
use Rattle.restricted_master.specs.Keeping.{fits_entry}
use Rattle.restricted_master.specs.inside.Flat.{IsFlat, IsHashed, LiesWithin, pool_of, pooled_in}
use Rattle.restricted_master.proofs.Compaction.{map-filter}

filter_costs : (cost : Entry → ℕ) (pooled : Entry → Pooled) (by : Pooled → ℕ) (stays : Entry → Bool) (entries : List Entry)
    → map cost entries ≡ map by (map pooled entries) → map cost (filter stays entries) ≡ map by (map pooled (filter stays entries))
filter_costs cost pooled by stays [] same = refl
filter_costs cost pooled by stays (e ∷ entries) same =
    let here : cost e ≡ by (pooled e) = cc in
    let rest : map cost entries ≡ map by (map pooled entries) = cc in
    go (stays e) here (filter_costs cost pooled by stays entries rest)
  where
    go : (b : Bool) → cost e ≡ by (pooled e) → map cost (filter stays entries) ≡ map by (map pooled (filter stays entries))
        → map cost (cond b (e ∷ filter stays entries) (filter stays entries)) ≡ map by (map pooled (cond b (e ∷ filter stays entries) (filter stays entries)))
    go true here rest = ap₂ (λ (c : ℕ) (cs : List ℕ). c ∷ cs) here rest
    go false here rest = rest

module _ (numbers : List ℕ) (entries left : List Entry) (test : Pooled → Bool) (is : left ≡ filter (λ entry. test (pooled_in numbers entry)) entries) where
  pairs_are : map (pooled_in numbers) left ≡ filter test (map (pooled_in numbers) entries)
  pairs_are = ap (map (pooled_in numbers)) is ∙ map-filter (pooled_in numbers) test entries

  pub left_flat : IsFlat numbers entries → IsFlat numbers left
  left_flat flat = record {
    within = subst (λ (es : List Entry). All (LiesWithin (length numbers)) es) (sym is)
        (All-filter (λ entry. test (pooled_in numbers entry)) (LiesWithin (length numbers)) entries flat.within);
    hashed = subst (λ (es : List Entry). All (IsHashed numbers) es) (sym is)
        (All-filter (λ entry. test (pooled_in numbers entry)) (IsHashed numbers) entries flat.hashed);
    few = omega (
      arith,
      flat.few,
      ap length is,
      length-filter (λ entry. test (pooled_in numbers entry)) entries,
      count_by-le-length (λ entry. test (pooled_in numbers entry)) entries,
    );
    distinct = subst (λ (ps : List Pooled). AllPairs (λ (one other : Pooled). one ≢ other) ps) (sym pairs_are)
        (AllPairs-filter (λ (one other : Pooled). one ≢ other) test (map (pooled_in numbers) entries) flat.distinct);
  }

  pub left_for : (table : CostTableSeen) (book : BookSeen) → IsPoolFor table book (pool_of numbers entries) → IsPoolFor table book (pool_of numbers left)
  left_for table book for = record {
    aircraft = subst (λ (ps : List Pooled). All (λ (e : Pooled). e.aircraft < aircraft book) ps) (sym pairs_are)
        (All-filter test (λ (e : Pooled). e.aircraft < aircraft book) (map (pooled_in numbers) entries) for.aircraft);
    rising = subst (λ (ps : List Pooled). All (λ (e : Pooled). IsRisingFrom (activities book) Carry e.route) ps) (sym pairs_are)
        (All-filter test (λ (e : Pooled). IsRisingFrom (activities book) Carry e.route) (map (pooled_in numbers) entries) for.rising);
    costs = ap (map (λ (e : Entry). e.cost)) is
        ∙ filter_costs (λ e. e.cost) (pooled_in numbers) (entry_cost table book) (λ entry. test (pooled_in numbers entry)) entries for.costs
        ∙ ap (λ (es : List Entry). map (entry_cost table book) (map (pooled_in numbers) es)) (sym is);
  }

  pub left_keeps : (book : BookSeen) (marks : List Fact) (seen : PoolSeen) → pool_of numbers entries ≡ seen → ((e : Pooled) → test e ≡ fits_entry book marks e)
      → map (pooled_in numbers) left ≡ filter test seen.entries
  left_keeps book marks seen same tests = pairs_are ∙ ap (λ (s : PoolSeen). filter test s.entries) same
