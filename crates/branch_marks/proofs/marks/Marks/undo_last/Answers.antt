use Rattle.std.proofs.Common.{◌≡◌, ◌+◌, ◌++◌, ◌∷◌, [], List, subst, take, length}
use Rattle.std.proofs.lemmas.List.Elements.{All-take}
use Rattle.branch_marks.specs.declared.fact.Fact.{Fact}
use Rattle.branch_marks.specs.inside.Once.{AreOnce}
use Rattle.branch_marks.specs.inside.MarkTables.{IsAliveTable, IsFactTable, IsFactWithin, IsNamedTable, given_to, is_bar, is_cut, is_must}
use Rattle.branch_marks.proofs.Undone.{alive_less, bars_less, cuts_less, last_is_new, musts_less, once_split, split_last}
use Rattle.branch_marks.proofs.marks.Marks.undo_last.Goals as goal

-- the last fact is none of those before it
pub undo_named-requires-clause-new : goal.undo_named-requires-clause-new
undo_named-requires-clause-new c =
    let long : c.args.left + 1 ≡ length c.self.inside.facts = rw (← c.self.view_is) at c.requires in
    rw c.cut.ensures (last_is_new c.self.inside.facts c.args.left c.at-fact.result long c.at-fact.ensures c.self.invariant.once)

pub undo_named-requires-2-clause-new : goal.undo_named-requires-2-clause-new
undo_named-requires-2-clause-new c =
    let long : c.args.left + 1 ≡ length c.self.inside.facts = rw (← c.self.view_is) at c.requires in
    rw c.cut.ensures (last_is_new c.self.inside.facts c.args.left c.at-fact.result long c.at-fact.ensures c.self.invariant.once)

pub undo_named-requires-3-clause-new : goal.undo_named-requires-3-clause-new
undo_named-requires-3-clause-new c =
    let long : c.args.left + 1 ≡ length c.self.inside.facts = rw (← c.self.view_is) at c.requires in
    rw c.cut.ensures (last_is_new c.self.inside.facts c.args.left c.at-fact.result long c.at-fact.ensures c.self.invariant.once)

-- each table says what the facts say that are left
pub invariant_of-self : goal.invariant_of-self
invariant_of-self c =
    let kept = c.self.invariant in
    let m = c.self.inside.aircraft in
    let n = c.self.inside.activities in
    let facts = c.self.inside.facts in
    let fact = c.at-fact.result in
    let long : c.args.left + 1 ≡ length facts = rw (← c.self.view_is) at c.requires in
    let left = take c.args.left facts in
    let split : facts ≡ left ++ fact ∷ [] = split_last facts c.args.left fact long c.at-fact.ensures in
    let once = once_split [] left fact (subst (λ (z : List Fact). AreOnce z) split kept.once) in
    let bars = bars_less m n left fact c.self.inside.bars c.undo_bar.new.bars once.1 (subst (λ (z : List Fact). IsFactTable m n is_bar z c.self.inside.bars) split kept.bars) c.undo_bar.ensures in
    let carriers : IsNamedTable n given_to left c.undo_named-3.new.named.items = rw (kept.carriers.count, c.cut.ensures) at c.undo_named-3.ensures in
    rw c.cut.ensures record {
      few_aircraft = kept.few_aircraft;
      few_activities = kept.few_activities;
      facts = All-take (IsFactWithin m n) c.args.left facts kept.facts;
      once = once.0;
      allowed_rows = kept.allowed_rows;
      allowed_columns = kept.allowed_columns;
      alive = alive_less m n c.self.inside.allowed c.undo_bar.new.bars c.undo_named-3.new.named.items left fact c.self.inside.alive c.undo_alive.new.alive bars carriers
          (subst (λ (z : List Fact). IsAliveTable m n c.self.inside.allowed z c.self.inside.alive) split kept.alive) (rw c.deref.ensures.value at c.undo_alive.ensures);
      bars = bars;
      musts = musts_less m n left fact c.self.inside.musts c.undo_must.new.musts once.1 (subst (λ (z : List Fact). IsFactTable m n is_must z c.self.inside.musts) split kept.musts) c.undo_must.ensures;
      cuts = cuts_less n left fact c.self.inside.cuts c.undo_cut.new.cuts once.1 (subst (λ (z : List Fact). IsFactTable n n is_cut z c.self.inside.cuts) split kept.cuts) c.undo_cut.ensures;
      next = rw (kept.next.count, c.cut.ensures) at c.undo_named.ensures;
      previous = rw (kept.previous.count, c.cut.ensures) at c.undo_named-2.ensures;
      carriers = carriers;
    }
