-- What adding a route to a pool does: it comes last, unless it is there. For src/new_routes.rt.
use Rattle.std.specs.Prelude.{ℕ, ◌≡◌, ◌<◌, Contains, length}
use Rattle.branch_marks.specs.Pool.{Pooled}
use Rattle.restricted_master.specs.declared.pool_add.PoolAdd.{PoolAdd}
use Rattle.restricted_master.specs.declared.pool_add.PoolAdd.TheVariants.{New, There}
use Rattle.restricted_master.specs.Seen.{PoolSeen}
use Rattle.restricted_master.specs.Pool.{entry_at, with_entry}

-- the route is there already where an entry is this pair, which is named and nothing changes; otherwise it comes last, with its cost
abbrev pub Adds : PoolSeen → PoolSeen → Pooled → ℕ → PoolAdd → Type 0
Adds old new entry cost (There i) = (i < length old.entries) × (entry_at old i ≡ entry) × (new ≡ old)
Adds old new entry cost (New i) =
    (¬ Contains old.entries entry) × (i ≡ length old.entries)
    × (new ≡ with_entry old entry cost)
