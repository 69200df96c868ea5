use Rattle.std.proofs.lemmas.List.Elements.{All-nil}
use Rattle.std.proofs.Common.{◌≡◌, ◌≤◌, rules}
use Rattle.branch_marks.specs.inside.MarkTables.{is_bar, is_must, is_cut, tied_after, tied_before, given_to, IsFactWithin}
use Rattle.branch_marks.proofs.FactTables.{alive_none, facts_none, named_none}
use Rattle.branch_marks.proofs.marks.Marks.new.Goals as goal

-- no table has anything yet
pub invariant_of-result-3 : goal.invariant_of-result-3
invariant_of-result-3 c =
    let few_aircraft : c.len-m.result ≤ 4096 = search rules in
    let few_activities : c.len-n.result ≤ 4096 = search rules in
    let rows : c.in_ok-allowed.allowed.rows ≡ c.len-n.result = search rules in
    let columns : c.in_ok-allowed.allowed.columns ≡ c.len-m.result = search rules in
    rw (c.in_ok-facts.ensures, c.allowed.view_is, c.alive.view_is) record {
      few_aircraft = few_aircraft;
      few_activities = few_activities;
      facts = All-nil (IsFactWithin c.len-m.result c.len-n.result);
      once = tt;
      allowed_rows = rows;
      allowed_columns = columns;
      alive = alive_none c.len-m.result c.len-n.result c.in_ok-allowed.allowed c.in_ok-alive.alive c.in_ok-alive.ensures rows columns;
      bars = facts_none c.len-m.result c.len-n.result is_bar _ c.in_ok-new.ensures.rows c.in_ok-new.ensures.columns c.in_ok-new.ensures.none;
      musts = facts_none c.len-m.result c.len-n.result is_must _ c.in_ok-new-2.ensures.rows c.in_ok-new-2.ensures.columns c.in_ok-new-2.ensures.none;
      cuts = facts_none c.len-n.result c.len-n.result is_cut _ c.in_ok-new-3.ensures.rows c.in_ok-new-3.ensures.columns c.in_ok-new-3.ensures.none;
      next = named_none c.len-n.result tied_after _ c.in_ok-nothing_named.ensures.count c.in_ok-nothing_named.ensures.each;
      previous = named_none c.len-n.result tied_before _ c.in_ok-nothing_named-2.ensures.count c.in_ok-nothing_named-2.ensures.each;
      carriers = named_none c.len-n.result given_to _ c.in_ok-nothing_named-3.ensures.count c.in_ok-nothing_named-3.ensures.each;
    }
