use Rattle.plan_picture.proofs.Signed.{as_it_was}
use Rattle.std.proofs.Common.{◌≡◌, ◌++◌, FitsSigned, rules, w64}
use Rattle.std.specs.Prelude.{codes}
use Rattle.std.proofs.lemmas.Result.{on_ok_weaker}
use Rattle.plan_picture.proofs.Appends.{seven}
use Rattle.tail_book.specs.Lookup.{activity_of, end_of, from_port, start_of, to_port}
use Rattle.plan_picture.specs.Bars.{at_port, moved_text}
use Rattle.plan_picture.proofs.bars.add_details.Goals as goal

-- what is appended is its pieces
pub returns : goal.returns
returns c =
    let fits_start_of : FitsSigned w64 c.start_of.result = search rules in
    let fits_end_of : FitsSigned w64 c.end_of.result = search rules in
    on_ok_weaker c.text-4.result (λ (last : c.text-4.new.self ≡ c.add_moved_text.new.line ++ c.args.names.now). rw (last, c.in_ok-add_moved_text.ensures, c.in_ok-add_at_port-2.ensures, c.in_ok-text-3.ensures.ok, c.in_ok-add_at_port.ensures, c.in_ok-text-2.ensures.ok, c.in_ok-text.ensures.ok, c.id_of.ensures, c.from_port.ensures.value, c.to_port.ensures.value, as_it_was c.start_of.result fits_start_of, as_it_was c.end_of.result fits_end_of, c.start_of.ensures.value, c.end_of.ensures.value)
    (seven c.args.line.now (activity_of c.args.book.now c.args.a).id (codes ", ") (at_port c.args.book.now (from_port c.args.book.now c.args.a) (start_of c.args.book.now c.args.a)) (codes ", ") (at_port c.args.book.now (to_port c.args.book.now c.args.a) (end_of c.args.book.now c.args.a)) (moved_text c.args.book.now c.args.before) c.args.names.now)) c.text-4.ensures.ok
