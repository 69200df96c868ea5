use Rattle.floor_rows.proofs.AskedLinks.{asked_none, asked_on}
use Rattle.floor_rows.proofs.laws.asking_passes_over.Goals as goal

pub returns : goal.returns
returns c book marks a b = record {
  nobody = asked_none book marks a b;
  over = λ n m used gap. asked_on c.alive_decides.ensures book marks a b n m gap used;
}
