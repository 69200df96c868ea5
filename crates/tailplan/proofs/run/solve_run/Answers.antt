use Rattle.std.proofs.Common.{◌≡◌, Some, false, rules, true}
use Rattle.run_frame.specs.Spelled.{spelled}
use Rattle.tailplan.specs.QuotaWords.{is_quota}
use Rattle.tailplan.specs.RepairWords.{is_repair}
use Rattle.tailplan.specs.WhyWords.{is_why}
use Rattle.tailplan.specs.Words.{seed_of}
use Rattle.tailplan.proofs.QuotaWords as quota
use Rattle.tailplan.proofs.RepairWords.{no_refusal as no_refusal_in_repair, no_repair_judged, no_repair_refused, no_touch, no_verdict as no_verdict_in_repair}
use Rattle.tailplan.proofs.TrialWords.{left_alone, no_refusal, no_verdict}
use Rattle.tailplan.proofs.WhyWords as why
use Rattle.tailplan.proofs.run.solve_run.Goals as goal

-- a repair: of tables and of a seed nothing is said
pub returns-then-is_repair-clause-tables_refused : goal.returns-then-is_repair-clause-tables_refused
returns-then-is_repair-clause-tables_refused g c =
    let asks : is_repair (spelled c.args.words.now) ≡ true = search rules in
    no_refusal_in_repair (spelled c.args.words.now) (g.F.Files.shows c.args.files) c.run_repair.result.status.0 asks

pub returns-then-is_repair-clause-judged : goal.returns-then-is_repair-clause-judged
returns-then-is_repair-clause-judged g c =
    let asks : is_repair (spelled c.args.words.now) ≡ true = search rules in
    no_verdict_in_repair (spelled c.args.words.now) (g.F.Files.shows c.args.files) c.run_repair.result.status.0 asks

pub returns-then-is_repair-clause-untouched : goal.returns-then-is_repair-clause-untouched
returns-then-is_repair-clause-untouched g c =
    let asks : is_repair (spelled c.args.words.now) ≡ true = search rules in
    no_touch (spelled c.args.words.now) _ asks

-- a run over tables: of a repair nothing is said
pub returns-in-None-clause-texts_refused : goal.returns-in-None-clause-texts_refused
returns-in-None-clause-texts_refused g c =
    let other : is_repair (spelled c.args.words.now) ≡ false = search rules in
    no_repair_refused (spelled c.args.words.now) (g.F.Files.shows c.args.files) c.run_tables.result.status.0 other

pub returns-in-None-clause-repaired : goal.returns-in-None-clause-repaired
returns-in-None-clause-repaired g c =
    let other : is_repair (spelled c.args.words.now) ≡ false = search rules in
    no_repair_judged (spelled c.args.words.now) (g.F.Files.shows c.args.files) c.run_tables.result.status.0 other

-- a trial: of tables and of a repair nothing is said, and no file is touched
pub returns-in-Some-clause-texts_refused : goal.returns-in-Some-clause-texts_refused
returns-in-Some-clause-texts_refused g c =
    let other : is_repair (spelled c.args.words.now) ≡ false = search rules in
    no_repair_refused (spelled c.args.words.now) (g.F.Files.shows c.args.files) c.run_trial.result.0 other

pub returns-in-Some-clause-repaired : goal.returns-in-Some-clause-repaired
returns-in-Some-clause-repaired g c =
    let other : is_repair (spelled c.args.words.now) ≡ false = search rules in
    no_repair_judged (spelled c.args.words.now) (g.F.Files.shows c.args.files) c.run_trial.result.0 other

pub returns-in-Some-clause-tables_refused : goal.returns-in-Some-clause-tables_refused
returns-in-Some-clause-tables_refused g c =
    let is : seed_of (spelled c.args.words.now) ≡ Some c.in-Some.seed = search rules in
    no_refusal (spelled c.args.words.now) c.in-Some.seed (g.F.Files.shows c.args.files) c.run_trial.result.0 is

pub returns-in-Some-clause-judged : goal.returns-in-Some-clause-judged
returns-in-Some-clause-judged g c =
    let is : seed_of (spelled c.args.words.now) ≡ Some c.in-Some.seed = search rules in
    no_verdict (spelled c.args.words.now) c.in-Some.seed (g.F.Files.shows c.args.files) c.run_trial.result.0 is

pub returns-in-Some-clause-left : goal.returns-in-Some-clause-left
returns-in-Some-clause-left g c = left_alone (spelled c.args.words.now) (g.F.Files.shows c.args.files)

-- why no plan is legal: of the tables of another run, of a repair and of a seed nothing is said
pub returns-then-is_why-clause-tables_refused : goal.returns-then-is_why-clause-tables_refused
returns-then-is_why-clause-tables_refused g c =
    let asks : is_why (spelled c.args.words.now) ≡ true = search rules in
    why.no_refusal (spelled c.args.words.now) (g.F.Files.shows c.args.files) c.run_why.result.status.0 asks

pub returns-then-is_why-clause-judged : goal.returns-then-is_why-clause-judged
returns-then-is_why-clause-judged g c =
    let asks : is_why (spelled c.args.words.now) ≡ true = search rules in
    why.no_verdict (spelled c.args.words.now) (g.F.Files.shows c.args.files) c.run_why.result.status.0 asks

pub returns-then-is_why-clause-texts_refused : goal.returns-then-is_why-clause-texts_refused
returns-then-is_why-clause-texts_refused g c =
    let asks : is_why (spelled c.args.words.now) ≡ true = search rules in
    why.no_repair_refused (spelled c.args.words.now) (g.F.Files.shows c.args.files) c.run_why.result.status.0 asks

pub returns-then-is_why-clause-repaired : goal.returns-then-is_why-clause-repaired
returns-then-is_why-clause-repaired g c =
    let asks : is_why (spelled c.args.words.now) ≡ true = search rules in
    why.no_repair_judged (spelled c.args.words.now) (g.F.Files.shows c.args.files) c.run_why.result.status.0 asks

pub returns-then-is_why-clause-untouched : goal.returns-then-is_why-clause-untouched
returns-then-is_why-clause-untouched g c =
    let asks : is_why (spelled c.args.words.now) ≡ true = search rules in
    why.no_touch (spelled c.args.words.now) _ asks

-- and nothing of this is said in another run
pub returns-then-is_repair-clause-why_refused : goal.returns-then-is_repair-clause-why_refused
returns-then-is_repair-clause-why_refused g c =
    let asks : is_repair (spelled c.args.words.now) ≡ true = search rules in
    why.no_why_refused (spelled c.args.words.now) (g.F.Files.shows c.args.files) c.run_repair.result.status.0 (why.no_why_in_repair (spelled c.args.words.now) asks)

pub returns-then-is_repair-clause-explained : goal.returns-then-is_repair-clause-explained
returns-then-is_repair-clause-explained g c =
    let asks : is_repair (spelled c.args.words.now) ≡ true = search rules in
    why.no_why_judged (spelled c.args.words.now) (g.F.Files.shows c.args.files) c.run_repair.result.status.0 (why.no_why_in_repair (spelled c.args.words.now) asks)

pub returns-in-None-clause-why_refused : goal.returns-in-None-clause-why_refused
returns-in-None-clause-why_refused g c =
    let other : is_why (spelled c.args.words.now) ≡ false = search rules in
    why.no_why_refused (spelled c.args.words.now) (g.F.Files.shows c.args.files) c.run_tables.result.status.0 (why.no_why (spelled c.args.words.now) other)

pub returns-in-None-clause-explained : goal.returns-in-None-clause-explained
returns-in-None-clause-explained g c =
    let other : is_why (spelled c.args.words.now) ≡ false = search rules in
    why.no_why_judged (spelled c.args.words.now) (g.F.Files.shows c.args.files) c.run_tables.result.status.0 (why.no_why (spelled c.args.words.now) other)

pub returns-in-Some-clause-why_refused : goal.returns-in-Some-clause-why_refused
returns-in-Some-clause-why_refused g c =
    let other : is_why (spelled c.args.words.now) ≡ false = search rules in
    why.no_why_refused (spelled c.args.words.now) (g.F.Files.shows c.args.files) c.run_trial.result.0 (why.no_why (spelled c.args.words.now) other)

pub returns-in-Some-clause-explained : goal.returns-in-Some-clause-explained
returns-in-Some-clause-explained g c =
    let other : is_why (spelled c.args.words.now) ≡ false = search rules in
    why.no_why_judged (spelled c.args.words.now) (g.F.Files.shows c.args.files) c.run_trial.result.0 (why.no_why (spelled c.args.words.now) other)

-- quotas: of the tables of another run, of a repair, of why no plan is legal and of a seed nothing is said
pub returns-then-is_quota-clause-tables_refused : goal.returns-then-is_quota-clause-tables_refused
returns-then-is_quota-clause-tables_refused g c =
    let asks : is_quota (spelled c.args.words.now) ≡ true = search rules in
    quota.no_refusal (spelled c.args.words.now) (g.F.Files.shows c.args.files) c.run_quota.result.status.0 asks

pub returns-then-is_quota-clause-judged : goal.returns-then-is_quota-clause-judged
returns-then-is_quota-clause-judged g c =
    let asks : is_quota (spelled c.args.words.now) ≡ true = search rules in
    quota.no_verdict (spelled c.args.words.now) (g.F.Files.shows c.args.files) c.run_quota.result.status.0 asks

pub returns-then-is_quota-clause-texts_refused : goal.returns-then-is_quota-clause-texts_refused
returns-then-is_quota-clause-texts_refused g c =
    let asks : is_quota (spelled c.args.words.now) ≡ true = search rules in
    quota.no_repair_refused (spelled c.args.words.now) (g.F.Files.shows c.args.files) c.run_quota.result.status.0 asks

pub returns-then-is_quota-clause-repaired : goal.returns-then-is_quota-clause-repaired
returns-then-is_quota-clause-repaired g c =
    let asks : is_quota (spelled c.args.words.now) ≡ true = search rules in
    quota.no_repair_judged (spelled c.args.words.now) (g.F.Files.shows c.args.files) c.run_quota.result.status.0 asks

pub returns-then-is_quota-clause-why_refused : goal.returns-then-is_quota-clause-why_refused
returns-then-is_quota-clause-why_refused g c =
    let asks : is_quota (spelled c.args.words.now) ≡ true = search rules in
    quota.no_why_refused (spelled c.args.words.now) (g.F.Files.shows c.args.files) c.run_quota.result.status.0 asks

pub returns-then-is_quota-clause-explained : goal.returns-then-is_quota-clause-explained
returns-then-is_quota-clause-explained g c =
    let asks : is_quota (spelled c.args.words.now) ≡ true = search rules in
    quota.no_why_judged (spelled c.args.words.now) (g.F.Files.shows c.args.files) c.run_quota.result.status.0 asks

pub returns-then-is_quota-clause-untouched : goal.returns-then-is_quota-clause-untouched
returns-then-is_quota-clause-untouched g c =
    let asks : is_quota (spelled c.args.words.now) ≡ true = search rules in
    quota.no_touch (spelled c.args.words.now) _ asks

-- and nothing of them is said in another run
pub returns-then-is_repair-clause-quota_refused : goal.returns-then-is_repair-clause-quota_refused
returns-then-is_repair-clause-quota_refused g c =
    let asks : is_repair (spelled c.args.words.now) ≡ true = search rules in
    quota.no_quota_refused (spelled c.args.words.now) (g.F.Files.shows c.args.files) c.run_repair.result.status.0 (quota.no_quota_in_repair (spelled c.args.words.now) asks)

pub returns-then-is_repair-clause-kept : goal.returns-then-is_repair-clause-kept
returns-then-is_repair-clause-kept g c =
    let asks : is_repair (spelled c.args.words.now) ≡ true = search rules in
    quota.no_quota_judged (spelled c.args.words.now) (g.F.Files.shows c.args.files) c.run_repair.result.status.0 (quota.no_quota_in_repair (spelled c.args.words.now) asks)

pub returns-then-is_why-clause-quota_refused : goal.returns-then-is_why-clause-quota_refused
returns-then-is_why-clause-quota_refused g c =
    let asks : is_why (spelled c.args.words.now) ≡ true = search rules in
    quota.no_quota_refused (spelled c.args.words.now) (g.F.Files.shows c.args.files) c.run_why.result.status.0 (quota.no_quota_in_why (spelled c.args.words.now) asks)

pub returns-then-is_why-clause-kept : goal.returns-then-is_why-clause-kept
returns-then-is_why-clause-kept g c =
    let asks : is_why (spelled c.args.words.now) ≡ true = search rules in
    quota.no_quota_judged (spelled c.args.words.now) (g.F.Files.shows c.args.files) c.run_why.result.status.0 (quota.no_quota_in_why (spelled c.args.words.now) asks)

pub returns-in-None-clause-quota_refused : goal.returns-in-None-clause-quota_refused
returns-in-None-clause-quota_refused g c =
    let other : is_quota (spelled c.args.words.now) ≡ false = search rules in
    quota.no_quota_refused (spelled c.args.words.now) (g.F.Files.shows c.args.files) c.run_tables.result.status.0 (quota.no_quota (spelled c.args.words.now) other)

pub returns-in-None-clause-kept : goal.returns-in-None-clause-kept
returns-in-None-clause-kept g c =
    let other : is_quota (spelled c.args.words.now) ≡ false = search rules in
    quota.no_quota_judged (spelled c.args.words.now) (g.F.Files.shows c.args.files) c.run_tables.result.status.0 (quota.no_quota (spelled c.args.words.now) other)

pub returns-in-Some-clause-quota_refused : goal.returns-in-Some-clause-quota_refused
returns-in-Some-clause-quota_refused g c =
    let other : is_quota (spelled c.args.words.now) ≡ false = search rules in
    quota.no_quota_refused (spelled c.args.words.now) (g.F.Files.shows c.args.files) c.run_trial.result.0 (quota.no_quota (spelled c.args.words.now) other)

pub returns-in-Some-clause-kept : goal.returns-in-Some-clause-kept
returns-in-Some-clause-kept g c =
    let other : is_quota (spelled c.args.words.now) ≡ false = search rules in
    quota.no_quota_judged (spelled c.args.words.now) (g.F.Files.shows c.args.files) c.run_trial.result.0 (quota.no_quota (spelled c.args.words.now) other)
