use Rattle.std.proofs.Common.{◌≡◌, true, false, refl, rules}
use Rattle.std.proofs.lemmas.Bool.Decides.{Decides-at}
use Rattle.tail_book.specs.inside.SoundTests.{is_book}
use Rattle.tail_book.proofs.SoundTested.{book_tested}
use Rattle.tail_book.proofs.book.Book.new.Goals as goal

-- the test was passed
pub invariant_of-result : goal.invariant_of-result
invariant_of-result c =
    let tested : true ≡ is_book (record { activities = c.args.activities.items; tails = c.args.tails.items; rules = c.args.rules }) = search rules in
    (Decides-at true _ tested (book_tested _)).0 refl

pub returns-then-is_book-clause-exactly : goal.returns-then-is_book-clause-exactly
returns-then-is_book-clause-exactly c =
    let tested : true ≡ is_book (record { activities = c.args.activities.items; tails = c.args.tails.items; rules = c.args.rules }) = search rules in
    Decides-at true _ tested (book_tested _)

-- the test was not passed
pub returns-else-is_book-clause-exactly : goal.returns-else-is_book-clause-exactly
returns-else-is_book-clause-exactly c =
    let tested : false ≡ is_book (record { activities = c.args.activities.items; tails = c.args.tails.items; rules = c.args.rules }) = search rules in
    Decides-at false _ tested (book_tested _)
