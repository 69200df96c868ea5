use Rattle.std.proofs.Common.{◌≡◌, ◌++◌, append_assoc}
use Rattle.std.proofs.lemmas.Result.{on_ok_weaker}
use Rattle.std.specs.Prelude.{codes}
use Rattle.tail_book.specs.Lookup.{tail_of}
use Rattle.plan_picture.proofs.bars.add_moved_text.Goals as goal

-- the words, and then the name
pub returns-in_ok-text-in-Some : goal.returns-in_ok-text-in-Some
returns-in_ok-text-in-Some c = on_ok_weaker c.text-in-Some.result
    (λ (last : c.text-in-Some.new.self ≡ c.text.new.self ++ c.tail_name.result.now). rw (last, c.in_ok-text-in-Some.ensures.ok, c.tail_name.ensures, c.in-Some.is)
    (append_assoc c.args.line.now (codes ", moved from ") (tail_of c.args.book.now c.in-Some.j).name)) c.text-in-Some.ensures.ok
