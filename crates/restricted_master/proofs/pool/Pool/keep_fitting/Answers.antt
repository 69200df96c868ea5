use Rattle.std.proofs.Common.{◌≡◌, ◌<◌, ◌∙◌, sym, subst, refl, List, ℕ}
use Rattle.std.proofs.lemmas.List.{get_or-map, length-map}
use Rattle.std.specs.Prelude.{All, filter}
use Rattle.tail_book.specs.Lookup.{aircraft}
use Rattle.branch_marks.specs.Pool.{Pooled}
use Rattle.restricted_master.specs.Seen.{PoolSeen}
use Rattle.restricted_master.specs.Pool.{IsPoolFor}
use Rattle.restricted_master.specs.declared.entry.Entry.{Entry}
use Rattle.restricted_master.specs.Keeping.{fits_entry}
use Rattle.restricted_master.specs.inside.Flat.{pooled_in}
use Rattle.restricted_master.proofs.Indexing.{none_indexed}
use Rattle.restricted_master.proofs.KeptPool.{left_flat, left_for, left_keeps}
use Rattle.restricted_master.proofs.pool.Pool.keep_fitting.Goals as goal

-- entries are of the book's aircraft
pub keep-requires-clause-aircraft : goal.keep-requires-clause-aircraft
keep-requires-clause-aircraft c = λ k d lt.
    let pooled = pooled_in c.self.inside.activities.items in
    let all = subst (λ (s : PoolSeen). All (λ (entry : Pooled). entry.aircraft < aircraft c.args.book.now) s.entries) (sym c.self.view_is) c.requires.aircraft in
    let here = all k (pooled d) (subst (λ (n : ℕ). k < n) (sym (length-map c.self.inside.entries.items pooled)) lt) in
    subst (λ (p : Pooled). p.aircraft < aircraft c.args.book.now) (get_or-map pooled c.self.inside.entries.items k d (pooled d) lt) here

-- those that are left are kept as they were
pub invariant_of-self : goal.invariant_of-self
invariant_of-self c = (
  left_flat c.self.inside.activities.items c.self.inside.entries.items c.keep.new.entries.items (fits_entry c.args.book.now c.args.marks.now.facts) (subst (λ (xs : List ℕ). c.keep.new.entries.items ≡ filter (λ (entry : Entry). fits_entry c.args.book.now c.args.marks.now.facts (pooled_in xs entry)) c.self.inside.entries.items) c.deref.ensures.value c.keep.ensures) c.self.invariant.0,
  none_indexed _ c.clear_all.new.lists.items (c.clear_all.ensures ∙ c.self.invariant.1.each),
)

pub returns : goal.returns
returns c = record {
  routes = left_keeps c.self.inside.activities.items c.self.inside.entries.items c.keep.new.entries.items (fits_entry c.args.book.now c.args.marks.now.facts) (subst (λ (xs : List ℕ). c.keep.new.entries.items ≡ filter (λ (entry : Entry). fits_entry c.args.book.now c.args.marks.now.facts (pooled_in xs entry)) c.self.inside.entries.items) c.deref.ensures.value c.keep.ensures)
      c.args.book.now c.args.marks.now.facts c.args.self.now c.self.view_is (λ e. refl);
  costs = λ table for.
      left_for c.self.inside.activities.items c.self.inside.entries.items c.keep.new.entries.items (fits_entry c.args.book.now c.args.marks.now.facts) (subst (λ (xs : List ℕ). c.keep.new.entries.items ≡ filter (λ (entry : Entry). fits_entry c.args.book.now c.args.marks.now.facts (pooled_in xs entry)) c.self.inside.entries.items) c.deref.ensures.value c.keep.ensures)
      table c.args.book.now (subst (λ (s : PoolSeen). IsPoolFor table c.args.book.now s) (sym c.self.view_is) for);
}
