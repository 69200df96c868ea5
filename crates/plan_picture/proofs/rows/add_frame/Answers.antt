use Rattle.std.proofs.Common.{◌≡◌, ◌++◌}
use Rattle.std.specs.Prelude.{codes, decimal}
use Rattle.std.proofs.lemmas.Result.{on_ok_weaker}
use Rattle.plan_picture.proofs.Appends.{nine}
use Rattle.plan_picture.specs.Layout.{y_of}
use Rattle.plan_picture.proofs.rows.add_frame.Goals as goal

-- what is appended is its pieces
pub returns : goal.returns
returns c = on_ok_weaker c.text-5.result (λ (last : c.text-5.new.self ≡ c.unsigned-4.new.self ++ codes "' width='336' height='100'>"). rw (last, c.in_ok-unsigned-4.ensures.ok, c.in_ok-text-4.ensures.ok, c.in_ok-unsigned-3.ensures.ok, c.in_ok-text-3.ensures.ok, c.in_ok-unsigned-2.ensures.ok, c.in_ok-text-2.ensures.ok, c.in_ok-unsigned.ensures.ok, c.in_ok-text.ensures.ok, c.y_of.ensures.value, c.y_of-2.ensures.value)
    (nine c.args.line.now (codes "<rect x='1780' y='") (decimal (y_of c.args.row)) (codes "' width='") (decimal c.args.width) (codes "' height='100' fill='url(#row") (decimal c.args.row) (codes ")'/><svg y='") (decimal (y_of c.args.row)) (codes "' width='336' height='100'>"))) c.text-5.ensures.ok
