use Rattle.std.proofs.Common.{◌≡◌, false, ap, subst}
use Rattle.std.proofs.lemmas.Result.{on_err_weaker, on_ok_weaker}
use Rattle.tail_outside.proofs.OutsideLemmas.{Adds-held, AddsFront-held}
use Rattle.tail_outside.proofs.file_sink.FileSinkSink.TheImpl.Goals as goal

-- what the file holds behind what it held is what the sink took
pub put-tells : goal.put-tells
put-tells g c = record {
  taken = on_ok_weaker c.result (λ added alive. Adds-held _ _ c.args.piece.now (added alive)) c.ensures.added;
  front = on_err_weaker c.result (λ added alive. AddsFront-held _ _ c.args.piece.now (added alive)) c.ensures.front;
  beside = (c.ensures.name, c.ensures.only_written);
  ceases = λ lasts. c.ensures.only_written.ceases c.args.self.now.name.now
      (subst (λ name. (g.F.Files.shows c.new.self.now.files).ceased name ≡ false) (ap (λ name. name.now) c.ensures.name) lasts);
  counts = c.ensures.only_written.writes;
  cause = c.ensures.cause;
  memory = c.ensures.memory;
}
