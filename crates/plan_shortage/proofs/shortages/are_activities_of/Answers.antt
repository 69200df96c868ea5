use Rattle.std.proofs.Common.{rules, ◌≡◌, Bool, true, false, nat_lt, subst}
use Rattle.std.specs.Bool.{Decides}
use Rattle.std.specs.List.{list_all}
use Rattle.tail_book.specs.Lookup.{activities}
use Rattle.tail_book.specs.Pairs.{each_pair}
use Rattle.plan_shortage.specs.Shortage.{AreActivitiesOf}
use Rattle.plan_shortage.proofs.Tested.{differ, activities_tested, first_holds, first_fails}
use Rattle.plan_shortage.proofs.shortages.are_activities_of.Goals as goal

-- each of the book: then none may stand twice
pub returns-then-are_of_book : goal.returns-then-are_of_book
returns-then-are_of_book c =
    let book = c.args.book.now in let list = c.args.list.now in
    let holds : list_all (λ a. nat_lt a (activities book)) list ≡ true = search rules in
    let is : c.none_twice.result ≡ each_pair differ list = c.none_twice.ensures in
    subst (λ (b : Bool). Decides b (AreActivitiesOf book list)) (first_holds _ (each_pair differ list) c.none_twice.result holds is) (activities_tested book list)

-- not each of the book
pub returns-else-are_of_book : goal.returns-else-are_of_book
returns-else-are_of_book c =
    let book = c.args.book.now in let list = c.args.list.now in
    let fails : list_all (λ a. nat_lt a (activities book)) list ≡ false = search rules in
    let is : c.are_of_book.result ≡ list_all (λ a. nat_lt a (activities book)) list = c.are_of_book.ensures in
    subst (λ (b : Bool). Decides b (AreActivitiesOf book list)) (first_fails _ (each_pair differ list) c.are_of_book.result fails is) (activities_tested book list)
