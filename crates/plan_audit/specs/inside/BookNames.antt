-- What holds of the index of a book's names: a name's place in it is its number.
use Rattle.std.specs.Prelude.{◌≡◌, ◌<◌, ◌^◌, length}
use Rattle.plan_audit.specs.declared.book_names.BookNames.{BookNames}
use Rattle.plan_audit.specs.Met.{tail_names, activity_ids}

-- they are those of the book, in its order, and few enough to be numbered
pub record AreBookNames (names : BookNames) : Type 0 where
  pub tails : names.tails.keys ≡ tail_names names.book.now
  pub activities : names.activities.keys ≡ activity_ids names.book.now
  pub few_tails : length names.tails.keys < 2 ^ 32
  pub few_activities : length names.activities.keys < 2 ^ 32
