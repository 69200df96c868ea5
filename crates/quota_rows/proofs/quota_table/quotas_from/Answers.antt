use Rattle.std.proofs.Common.{◌≡◌, ◌-◌, ◌<◌, ap, length, rules, arith, Ok, Err}
use Rattle.std.proofs.lemmas.List.Elements.{All-push}
use Rattle.quota_rows.specs.Belongs.{IsQuotaOf}
use Rattle.quota_rows.specs.QuotaTable.{record_in}
use Rattle.quota_rows.specs.declared.quota.TheConstants.{QUOTA_LIMIT}
use Rattle.quota_rows.proofs.QuotaLemmas.{record_in-room, turn-bad, turn-end, turn-good}
use Rattle.quota_rows.proofs.quota_table.quotas_from.Goals as goal

pub returns-clause-exact : goal.returns-clause-exact
returns-clause-exact c = turn-end _ _ _ _ c.loop-quotas.invariant.exact (rw c.if-branch.false at c.in_ok-take.ensures.taken)

pub returns-in-Err-clause-exact : goal.returns-in-Err-clause-exact
returns-in-Err-clause-exact c =
    let taken = rw c.if-branch.true at c.in_ok-take.ensures.taken in
    let fits : record_in c.args.book.now (QUOTA_LIMIT - length c.loop-quotas.quotas.items) c.take.new.fields ≡ Err c.in-Err.code = search rules in
    let place : c.len-in-Err.result ≡ length c.loop-quotas.quotas.items = search rules in
    rw (c.refused.ensures, place) (turn-bad _ _ _ _ c.loop-quotas.invariant.exact _ _ _ taken fits)

pub loop-quotas-preserved : goal.loop-quotas-preserved
loop-quotas-preserved c =
    let taken = rw c.if-branch.true at c.in_ok-take.ensures.taken in
    let quota : record_in c.args.book.now (QUOTA_LIMIT - length c.loop-quotas.quotas.items) c.take.new.fields ≡ Ok c.in-Ok.quota = search rules in
    let room : 0 < QUOTA_LIMIT - length c.loop-quotas.quotas.items = record_in-room c.args.book.now (QUOTA_LIMIT - length c.loop-quotas.quotas.items) c.take.new.fields c.in-Ok.quota quota in
    let items = rw c.if-is_err.ensures.negation at c.push.ensures.items in
    record {
      few = omega (arith, c.push.ensures.len, ap length items, room);
      each = rw items (All-push (IsQuotaOf c.args.book.now) _ _ c.loop-quotas.invariant.each c.in-Ok.ensures.sound);
      exact = rw items (turn-good _ _ _ _ c.loop-quotas.invariant.exact _ _ _ taken quota);
    }
