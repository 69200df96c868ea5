-- What is added to the text that a sink and the lines that wait are together. For src/cert_log.rt.
use Rattle.std.specs.Prelude.{ℕ, ◌≡◌, false, List, ◌++◌, Some}
use Rattle.tail_outside.specs.Shown.{SinkShown}

-- what the sink took, and behind it what waits, is this text
pub record Holds (sink : SinkShown) (waiting whole : List ℕ) : Type 0 where
  pub taken : List ℕ
  pub bytes : sink.told ≡ Some taken
  pub text : whole ≡ taken ++ waiting

-- the sink took a front of this text
pub record HoldsFront (sink : SinkShown) (whole : List ℕ) : Type 0 where
  pub taken : List ℕ
  pub rest : List ℕ
  pub bytes : sink.told ≡ Some taken
  pub text : whole ≡ taken ++ rest

-- the piece stands behind the text that they held
abbrev pub AddsTo : SinkShown → SinkShown → List ℕ → List ℕ → List ℕ → Type 0
AddsTo old new waited waiting piece = new.ceased ≡ false → (whole : List ℕ) → Holds old waited whole → Holds new waiting (whole ++ piece)

-- the sink has a front of the text that they held, and of the piece
abbrev pub AddsFrontTo : SinkShown → SinkShown → List ℕ → List ℕ → Type 0
AddsFrontTo old new waited piece = new.ceased ≡ false → (whole : List ℕ) → Holds old waited whole → HoldsFront new (whole ++ piece)
