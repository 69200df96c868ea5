use Rattle.plan_picture.proofs.Signed.{as_it_was}
use Rattle.std.proofs.Common.{◌≡◌, ◌++◌, FitsSigned, rules, w64}
use Rattle.std.specs.Prelude.{◌+◌, codes}
use Rattle.std.proofs.lemmas.Result.{on_ok_weaker}
use Rattle.plan_picture.proofs.Appends.{seven}
use Rattle.tail_book.specs.Lookup.{end_of, start_of}
use Rattle.plan_picture.specs.Bars.{bar_class, details}
use Rattle.plan_picture.specs.Layout.{span, y_of}
use Rattle.plan_picture.proofs.bars.add_front.Goals as goal

-- what is appended is its pieces
pub returns : goal.returns
returns c =
    let fits_start_of : FitsSigned w64 c.start_of.result = search rules in
    let fits_end_of : FitsSigned w64 c.end_of.result = search rules in
    on_ok_weaker c.text-4.result (λ (last : c.text-4.new.self ≡ c.add_details.new.line ++ codes "</title><rect width='100%' height='32'/>"). rw (last, c.in_ok-add_details.ensures, c.in_ok-text-3.ensures.ok, c.in_ok-add_span.ensures, c.in_ok-text-2.ensures.ok, c.in_ok-add_class.ensures, c.in_ok-text.ensures.ok, c.y_of.ensures.value, as_it_was c.args.first c.ranges.first, as_it_was c.start_of.result fits_start_of, as_it_was c.end_of.result fits_end_of, c.start_of.ensures.value, c.end_of.ensures.value)
    (seven c.args.line.now (codes "<svg class='") (bar_class c.args.book.now c.args.a c.args.names.now c.args.before) (codes "'") (span c.args.first (y_of c.args.row + 24) (start_of c.args.book.now c.args.a) (end_of c.args.book.now c.args.a)) (codes " height='60'><title>") (details c.args.book.now c.args.a c.args.names.now c.args.before) (codes "</title><rect width='100%' height='32'/>"))) c.text-4.ensures.ok
