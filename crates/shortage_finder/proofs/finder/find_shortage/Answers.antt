use Rattle.std.proofs.Common.{IfOk, IfSome}
use Rattle.std.proofs.lemmas.Option.{IfSome_then}
use Rattle.std.proofs.lemmas.Result.{IfOk-weaker}
use Rattle.std.specs.Prelude.{Option}
use Rattle.plan_shortage.specs.Shortage.{IsShortage}
use Rattle.shortage_finder.specs.Causes.{IsCauseIn}
use Rattle.shortage_finder.specs.Found.{IsFoundIn}
use Rattle.shortage_finder.specs.declared.found.FoundShortage.{FoundShortage}
use Rattle.shortage_finder.proofs.finder.find_shortage.Goals as goal

-- what is found is a shortage
pub returns-clause-found : goal.returns-clause-found
returns-clause-found c =
    let book = c.args.book.now in
    IfOk-weaker c.first_found.result
    (λ (found : Option FoundShortage). IfSome found (IsFoundIn book))
    (λ (found : Option FoundShortage). IfSome found (λ it. IsShortage book it.asked.items it.brought.items it.mosts.items))
    (λ found is. IfSome_then found is (λ it made. made.shortage))
    c.first_found.ensures.found

-- its cause is one of the book
pub returns-clause-cause : goal.returns-clause-cause
returns-clause-cause c =
    let book = c.args.book.now in
    IfOk-weaker c.first_found.result
    (λ (found : Option FoundShortage). IfSome found (IsFoundIn book))
    (λ (found : Option FoundShortage). IfSome found (λ it. IsCauseIn book it.cause))
    (λ found is. IfSome_then found is (λ it made. made.cause))
    c.first_found.ensures.found
