use Rattle.std.proofs.Common.{rules, ◌≡◌, ◌+◌, ◌≤◌, arith, ap, subst, sym}
use Rattle.tail_book.specs.CostTable.{IsCostTable, IsTableFor}
use Rattle.tail_book.specs.TableSeen.{CostTableSeen}
use Rattle.plan_repair.specs.inside.Raised.{raised}
use Rattle.plan_repair.proofs.RaisedCosts.{made_for, made_sound}
use Rattle.plan_repair.proofs.raised.raised.Goals as goal

-- what was read of the table is the table
pub invariant_of-result : goal.invariant_of-result
invariant_of-result c =
    let was : CostTableSeen = record {
      n = c.table.inside.n;
      m = c.table.inside.m;
      fly = c.table.inside.fly.items;
      bands = c.table.inside.bands.items;
      fly_max = c.table.inside.fly_max;
      band_max = c.table.inside.band_max;
    } in
    let is : was ≡ c.args.table.now = c.table.view_is in
    let size = ap (λ (t : CostTableSeen). t.n) is in
    let bands : c.extend_from_slice.new.self.items ≡ c.table.inside.bands.items = search rules in
    made_sound was c.args.homes.now c.args.raise c.in_ok-fly.fly.items c.extend_from_slice.new.self.items
    (subst IsCostTable (sym is) c.every_cost_table_is_sound.ensures) (omega (arith, size, c.requires.table.activities, c.requires.few))
    (subst (λ (t : CostTableSeen). t.fly_max + t.band_max ≤ 2_000_000) (sym is) c.requires.cheap) c.requires.raise
    (subst (λ (t : CostTableSeen). c.in_ok-fly.fly.items ≡ (raised t c.args.homes.now c.args.raise).fly) (sym is) c.in_ok-fly.ensures) bands

pub returns-clause-is_for : goal.returns-clause-is_for
returns-clause-is_for c =
    let was : CostTableSeen = record {
      n = c.table.inside.n;
      m = c.table.inside.m;
      fly = c.table.inside.fly.items;
      bands = c.table.inside.bands.items;
      fly_max = c.table.inside.fly_max;
      band_max = c.table.inside.band_max;
    } in
    let is : was ≡ c.args.table.now = c.table.view_is in
    made_for c.args.book.now was c.args.homes.now c.args.raise c.in_ok-fly.fly.items c.extend_from_slice.new.self.items (c.table.inside.fly_max + c.args.raise) c.table.inside.band_max
    (subst (IsTableFor c.args.book.now) (sym is) c.requires.table)
    (subst (λ (t : CostTableSeen). c.in_ok-fly.fly.items ≡ (raised t c.args.homes.now c.args.raise).fly) (sym is) c.in_ok-fly.ensures)
