-- What is told of a plan's file: the plan or the refusal that its bytes give, unless a read fails or memory runs out.
use Rattle.std.specs.Prelude.{◌≡◌, ⊤, Result, Ok, Err}
use Rattle.tail_book.specs.Seen.{RawPlanSeen}
use Rattle.tail_text.specs.declared.refusal.Refusal.{Refusal}
use Rattle.sample_calls.specs.declared.files.NoPlan.{NoPlan}
use Rattle.sample_calls.specs.declared.files.NoPlan.TheVariants.{Refused, ReadFailed, Memory}

-- the answer is the plan that is due, or the refusal; a read may fail, and memory run out
abbrev pub TellsPlan : Result RawPlanSeen Refusal → Result RawPlanSeen NoPlan → Type 0
TellsPlan due (Ok plan) = due ≡ Ok plan
TellsPlan due (Err (Refused refusal)) = due ≡ Err refusal
TellsPlan due (Err ReadFailed) = ⊤
TellsPlan due (Err Memory) = ⊤
