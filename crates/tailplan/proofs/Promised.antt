-- From an answer that is true and printed to what a run promises. Tables that were read up to the limit say what the
-- whole files say, so the answer is true of the words. What is held is one book or one refusal, never both, and
-- outcomes have other statuses than all else: so a status comes exactly for its cause.
use Rattle.std.specs.Prelude.{option_map}
use Rattle.std.proofs.Common.{◌≡◌, ◌≢◌, ◌∙◌, ℕ, inl, inr, arith, List, Option, None, Some, IfSome, refl, subst, sym}
use Rattle.tail_book.specs.Seen.{BookSeen}
use Rattle.tail_book.specs.Truth.{IsTrueOutcome}
use Rattle.tail_book.specs.declared.outcome.Outcome.{Outcome}
use Rattle.tail_book.specs.declared.outcome.Outcome.TheVariants.{Optimal, Infeasible, Between, Above}
use Rattle.tail_outside.specs.Outside.{PieceHasFailed, Takes}
use Rattle.tail_outside.specs.Shown.{FilesShown, SinkShown}
use Rattle.tail_text.specs.declared.refusal.Refusal.{Refusal}
use Rattle.tail_book.specs.CostTable.{costs_of}
use Rattle.node_leaves.specs.Node.{Node}
use Rattle.branch_tree.specs.SearchTree.{HasReached}
use Rattle.branch_tree.specs.declared.limit.Limit.{Limit}
use Rattle.branch_tree.specs.declared.limit.Limit.TheVariants.{Free, Nodes}
use Rattle.certified_search.specs.OrderedTree.{IsTreeIn}
use Rattle.certified_search.specs.declared.order.Order.{Order}
use Rattle.certified_search.specs.declared.order.Order.TheVariants.{DepthFirst, LeastBound}
use Rattle.plan_report.specs.Report.{report, report_lines}
use Rattle.plan_report.specs.inside.Report.{HasPlanFor}
use Rattle.run_frame.proofs.Ending as ending
use Rattle.run_frame.proofs.Fronts.{book_of-fronts}
use Rattle.run_frame.proofs.Held.{OfHeld-map}
use Rattle.run_frame.specs.inside.Answer.{IsAnswerTo, IsPrintable as IsPrintableBy, IsPrinted, status_of}
use Rattle.run_frame.specs.Answer.{IsUnlessStopped}
use Rattle.run_frame.specs.inside.TableFiles.{fronts}
use Rattle.run_frame.specs.TableFiles.{tables_held}
use Rattle.run_frame.specs.Tables.{TablesSeen}
use Rattle.run_frame.specs.declared.answer.Answer.TheVariants.{ReadFailed}
use Rattle.tailplan.specs.Answers.{Answer, AreRefused, AreSolved, HasTree, IsBookOf, IsCertified, IsTrueAnswer, OfTask, answer_text}
use Rattle.tailplan.specs.inside.Outcomes.{outcome_status}
use Rattle.tailplan.specs.inside.Tasks.{task_fronts}
use Rattle.tailplan.specs.Promises.{IsCaseOf, IsNumber, IsVerdict, JudgesBook, Promise, RefusesTables}
use Rattle.tailplan.specs.Tasks.{TaskNamesSeen, TaskSeen, task_held}
use Rattle.tailplan.specs.Usage.{usage_line}
use Rattle.tailplan.specs.Words.{run_of}

abbrev Same : TaskSeen → TaskSeen → Type 0
Same a b = a ≡ b

-- tables that were read up to the limit are the fronts of the files
pub task-read : (files : FilesShown) (names : TaskNamesSeen) (read : TablesSeen) → IfSome (tables_held files names.tables) (λ whole. read ≡ fronts whole)
    → IfSome (task_held files names) (λ whole. record { tables = read; limit = names.limit; order = names.order; version = names.version; cert = names.cert } ≡ task_fronts whole)
task-read files names read h = each (tables_held files names.tables) h
  where
    alike : {t u : TablesSeen} → t ≡ u → Same (record { tables = t; limit = names.limit; order = names.order; version = names.version; cert = names.cert }) (record { tables = u; limit = names.limit; order = names.order; version = names.version; cert = names.cert })
    alike same = rw same refl

    each : (t : Option TablesSeen) → IfSome t (λ whole. read ≡ fronts whole)
        → IfSome (option_map (λ tables. record { tables = tables; limit = names.limit; order = names.order; version = names.version; cert = names.cert }) t)
        (λ whole. record { tables = read; limit = names.limit; order = names.order; version = names.version; cert = names.cert } ≡ task_fronts whole)
    each None a = tt
    each (Some tables) a = alike a

-- an answer to the tables that were read is a true answer to the words
pub true_answer : (words : List (List ℕ)) (files later : FilesShown) (names : TaskNamesSeen) (read : TaskSeen) (answer : Answer) → run_of words ≡ Some names
    → IfSome (task_held files names) (λ task. read ≡ task_fronts task) → IsAnswerTo AreRefused (AreSolved later) read answer → IsTrueAnswer words files later answer
true_answer words files later = ending.true_answer (run_of words) (task_held files) AreRefused (AreSolved later) task_fronts
    (λ task refusal h. sym (book_of-fronts task.tables) ∙ h) (λ task solved h. (sym (book_of-fronts task.tables) ∙ h.0, h.1, h.2, h.3))

-- a book is no refusal
apart : (task : TaskSeen) (book : BookSeen) (refusal : Refusal) → IsBookOf task book → AreRefused task refusal → ⊥
apart task book refusal is refused = let both = sym is ∙ refused in cc

-- the tables are one book
same_book : (task : TaskSeen) (a b : BookSeen) → IsBookOf task a → IsBookOf task b → a ≡ b
same_book task a b first second = let both = sym first ∙ second in cc

-- only a number is reached
reached : (limit : Limit) (count : ℕ) → HasReached limit count → IsNumber limit
reached Free count h = h
reached (Nodes most) count h = tt

-- a tree in either order has a bound only at a limit
reached_between : (book : BookSeen) (limit : Limit) (order : Order) (plan : List (List ℕ)) (low high count : ℕ) (nodes : List Node)
    → IsTreeIn order (costs_of book) book limit (Between plan low high count) nodes → IsNumber limit
reached_between book limit DepthFirst plan low high count nodes tree = reached limit count tree.1.answered.3
reached_between book limit LeastBound plan low high count nodes tree = reached limit count tree.1.answered.3

reached_above : (book : BookSeen) (limit : Limit) (order : Order) (low count : ℕ) (nodes : List Node)
    → IsTreeIn order (costs_of book) book limit (Above low count) nodes → IsNumber limit
reached_above book limit DepthFirst low count nodes tree = reached limit count tree.1.answered.2
reached_above book limit LeastBound low count nodes tree = reached limit count tree.1.answered.2

-- the statuses of outcomes are 0, 1 and 4
pub never_five : (outcome : Outcome) → outcome_status outcome ≢ 5
never_five (Optimal plan cost) e = absurd (omega (arith, e))
never_five Infeasible e = absurd (omega (arith, e))
never_five (Between plan low high nodes) e = absurd (omega (arith, e))
never_five (Above low nodes) e = absurd (omega (arith, e))

pub never_six : (outcome : Outcome) → outcome_status outcome ≢ 6
never_six (Optimal plan cost) e = absurd (omega (arith, e))
never_six Infeasible e = absurd (omega (arith, e))
never_six (Between plan low high nodes) e = absurd (omega (arith, e))
never_six (Above low nodes) e = absurd (omega (arith, e))

-- a true outcome says whether some plan is legal, or a number was reached
decides : (book : BookSeen) (limit : Limit) (order : Order) (outcome : Outcome) (status : ℕ) → IsTrueOutcome book outcome → HasTree book limit order outcome → status ≡ outcome_status outcome
    → IsVerdict (record { book = book; limit = limit }) status
decides book limit order (Optimal plan cost) status truth tree is = inl (is, (plan, truth.plan.legal))
decides book limit order Infeasible status truth tree is = inr (inl (is, truth.claim))
decides book limit order (Between plan low high nodes) status truth tree is = inr (inr (is, reached_between book limit order plan low high nodes tree.0 tree.1))
decides book limit order (Above low nodes) status truth tree is = inr (inr (is, reached_above book limit order low nodes tree.0 tree.1))

module _ (words : List (List ℕ)) (files later : FilesShown) (before after : SinkShown) where
  -- an outcome that was printed promises what its status says
  found : (book : BookSeen) (outcome : Outcome) → OfTask words files (λ task. IsBookOf task book × IsTrueOutcome book outcome × HasTree book task.limit task.order outcome × IsCertified later task book outcome)
      → Takes before after (report book outcome) → Promise words files later before after (outcome_status outcome)
  found book (Optimal plan cost) k took = OfHeld-map (run_of words) (task_held files) _ _ (λ task own. record {
    book = book;
    plan = plan;
    cost = cost;
    is = own.0;
    truth = own.1;
    certified = own.3;
    printed = took;
  }) k
  found book Infeasible k took = OfHeld-map (run_of words) (task_held files) _ _ (λ task own. record {
    book = book;
    is = own.0;
    truth = own.1.claim;
    certified = own.3;
    printed = took;
  }) k
  found book (Between plan low high nodes) k took = OfHeld-map (run_of words) (task_held files) _ _ (λ task own. record {
    book = book;
    outcome = Between plan low high nodes;
    is = own.0;
    bound = tt;
    truth = own.1;
    tree = own.2;
    certified = own.3;
    printed = took;
  }) k
  found book (Above low nodes) k took = OfHeld-map (run_of words) (task_held files) _ _ (λ task own. record {
    book = book;
    outcome = Above low nodes;
    is = own.0;
    bound = tt;
    truth = own.1;
    tree = own.2;
    certified = own.3;
    printed = took;
  }) k

  module _ (status : ℕ) (answer : Answer) (truth : IsTrueAnswer words files later answer)
      (printed : IsPrinted (answer_text answer) (status_of (λ solved. outcome_status solved.outcome) answer) before after status) where
    pub promise : IsPrintableBy (λ solved. HasPlanFor solved.book solved.outcome) answer → Promise words files later before after status
    promise fit = ending.promise (run_of words) (task_held files) AreRefused (AreSolved later) usage_line (λ solved. report_lines solved.book solved.outcome) (λ solved. outcome_status solved.outcome)
        before after status answer truth printed (Promise words files later before after) (λ solved. HasPlanFor solved.book solved.outcome) fit
        (λ h. h) (λ h. h) (λ h. h) (λ h. inl (record { piece = h.0; front = h.1 })) (λ h. h) (λ solved fits k took. found solved.book solved.outcome k took)

    pub piece_failed : status ≡ 6 → PieceHasFailed before after
    piece_failed = ending.piece_failed (run_of words) (task_held files) AreRefused (AreSolved later) usage_line (λ solved. report_lines solved.book solved.outcome) (λ solved. outcome_status solved.outcome)
        before after status answer truth printed (λ solved. never_six solved.outcome)

    pub read_failed : (Cause : Type 0) → (answer ≡ ReadFailed → Cause) → status ≡ 5 → Cause
    read_failed Cause cause = ending.read_failed (run_of words) (task_held files) AreRefused (AreSolved later) usage_line (λ solved. report_lines solved.book solved.outcome) (λ solved. outcome_status solved.outcome)
        before after status answer truth printed Cause cause (λ solved. never_five solved.outcome)

    pub words_refused : run_of words ≡ None → IsUnlessStopped 2 status
    words_refused = ending.words_refused (run_of words) (task_held files) AreRefused (AreSolved later) usage_line (λ solved. report_lines solved.book solved.outcome) (λ solved. outcome_status solved.outcome)
        before after status answer truth printed

    pub tables_refused : RefusesTables words files status
    tables_refused = ending.refused (run_of words) (task_held files) AreRefused (AreSolved later) usage_line (λ solved. report_lines solved.book solved.outcome) (λ solved. outcome_status solved.outcome)
        before after status answer truth printed (λ task refusal solved is own. apart task solved.book refusal own.0 is)

    pub judged : IsPrintableBy (λ solved. HasPlanFor solved.book solved.outcome) answer → JudgesBook words files status
    judged fit = ending.judged (run_of words) (task_held files) AreRefused (AreSolved later) usage_line (λ solved. report_lines solved.book solved.outcome) (λ solved. outcome_status solved.outcome)
        before after status answer truth printed IsCaseOf IsVerdict (λ solved. HasPlanFor solved.book solved.outcome) fit (λ task case refusal is. apart task case.book refusal is.0)
        (λ task case solved is own fits s. subst (λ (b : BookSeen). IsVerdict (record { book = b; limit = case.limit }) status) (same_book task solved.book case.book own.0 is.0)
        (decides solved.book case.limit task.order solved.outcome status own.1 (subst (λ (limit : Limit). HasTree solved.book limit task.order solved.outcome) is.1 own.2) s))
