use Rattle.std.proofs.Common.{◌≡◌, ◌++◌, w64}
use Rattle.std.specs.Prelude.{◌-◌, codes, decimal}
use Rattle.std.proofs.lemmas.Int.{to_z-of_z}
use Rattle.std.proofs.lemmas.Result.{on_ok_weaker}
use Rattle.plan_picture.proofs.Appends.{seven}
use Rattle.plan_picture.specs.Layout.{x_of}
use Rattle.plan_picture.proofs.layout.add_span.Goals as goal

-- what is appended is its pieces
pub returns : goal.returns
returns c = on_ok_weaker c.text-4.result (λ (last : c.text-4.new.self ≡ c.unsigned-3.new.self ++ codes "'"). rw (last, c.in_ok-unsigned-3.ensures.ok, c.in_ok-text-3.ensures.ok, c.in_ok-unsigned-2.ensures.ok, c.in_ok-text-2.ensures.ok, c.in_ok-unsigned.ensures.ok, c.in_ok-text.ensures.ok, c.saturating_sub.ensures, c.x_of.ensures.value, c.x_of-2.ensures.value, c.x_of-3.ensures.value, to_z-of_z w64 c.args.first c.ranges.first, to_z-of_z w64 c.args.from c.ranges.from, to_z-of_z w64 c.args.to c.ranges.to)
    (seven c.args.line.now (codes " x='") (decimal (x_of c.args.first c.args.from)) (codes "' y='") (decimal c.args.y) (codes "' width='") (decimal (x_of c.args.first c.args.to - x_of c.args.first c.args.from)) (codes "'"))) c.text-4.ensures.ok
