-- How far a file was fed to a checker, and what this says of it. For src/feeding.rt.
use Rattle.std.specs.Prelude.{ℕ, List, Option, IfSome}
use Rattle.cert_checker.specs.Judged.{CheckerSeen, Stands}
use Rattle.cert_checker.specs.Verdict.{verdict}
use Rattle.tailcheck.specs.Answers.{IsJudgedSo, IsTooLong}
use Rattle.tailcheck.specs.declared.feeding.Fed.{Fed}
use Rattle.tailcheck.specs.declared.feeding.Fed.TheVariants.{Decided, TooLong}

-- the checker stands for some text whose verdict is that on the file's bytes, where these are told; or these are too many
abbrev pub IsFedSo : CheckerSeen → Option (List ℕ) → Fed → Type 0
IsFedSo checker held Decided = (text : List ℕ) × Stands checker text × IfSome held (IsJudgedSo checker.book (verdict checker.book text))
IsFedSo checker held TooLong = IfSome held (IsTooLong checker.book)
