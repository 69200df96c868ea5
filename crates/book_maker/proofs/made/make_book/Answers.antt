use Rattle.std.proofs.Common.{subst}
use Rattle.tail_book.specs.Seen.{BookSeen}
use Rattle.tail_text.specs.inside.Reading.{Answers}
use Rattle.book_maker.specs.Made.{made_of}
use Rattle.book_maker.proofs.made.make_book.Goals as goal

-- the lists that were lent are those of the arguments
pub returns : goal.returns
returns c =
    let lent = subst (λ activities. Answers {T = BookSeen} (λ book. book) (made_of activities c.deref-2.result.now c.args.rules) c.book_of_rows.result) c.deref.ensures.value c.book_of_rows.ensures in
    subst (λ tails. Answers {T = BookSeen} (λ book. book) (made_of c.args.activities.items tails c.args.rules) c.book_of_rows.result) c.deref-2.ensures.value lent
