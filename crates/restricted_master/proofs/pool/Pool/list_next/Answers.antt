use Rattle.std.proofs.Common.{◌≡◌, ◌∙◌, ◌<◌, ◌%◌, ℕ, sym, ap, length, arith}
use Rattle.restricted_master.specs.Seen.{PoolSeen}
use Rattle.restricted_master.specs.declared.index.TheConstants.{LISTS}
use Rattle.restricted_master.specs.inside.Flat.{pool_of}
use Rattle.restricted_master.specs.inside.Index.{list_of}
use Rattle.restricted_master.proofs.Indexing.{list_more}
use Rattle.restricted_master.proofs.pool.Pool.list_next.Goals as goal

-- one route more is listed
pub invariant_of-self-2 : goal.invariant_of-self-2
invariant_of-self-2 c =
    let seen : PoolSeen = pool_of c.self.inside.activities.items c.self.inside.entries.items in
    let same = ap (λ (s : PoolSeen). length s.entries) c.self.view_is in
    let below : c.self.inside.listed < length seen.entries = omega (arith, c.if-i-count.false, c.count.ensures, same) in
    let at : c.hash.result % LISTS ≡ list_of seen c.self.inside.listed = ap (λ (h : ℕ). h % LISTS) c.hash.ensures ∙ ap (λ (s : PoolSeen). list_of s c.self.inside.listed) (sym c.self.view_is) in
    (c.self.invariant.0, list_more seen c.self.inside.lists.items c.put.new.lists.items c.self.inside.listed _ c.self.invariant.1 below at c.in_ok-put.ensures.put)
