-- The answer of a reader, for which memory may be wanting: the one that the definition gives, or want of memory.
-- For book_maker/src/declare.rt, book_maker/src/looked_up.rt and others.
use Rattle.std.specs.Prelude.{◌≡◌, ⊤, Result, Ok, Err}
use Rattle.tail_text.specs.declared.refusal.Refusal.{Refusal}
use Rattle.tail_text.specs.declared.refusal.Stopped.{Stopped}
use Rattle.tail_text.specs.declared.refusal.Stopped.TheVariants.{Refused, Memory}

-- the answer is what is due, seen as the definitions see it, or its refusal; memory may run out at any time
abbrev pub Answers : {S T : Type 0} → (T → S) → Result S Refusal → Result T Stopped → Type 0
Answers seen due (Ok value) = due ≡ Ok (seen value)
Answers seen due (Err (Refused refusal)) = due ≡ Err refusal
Answers seen due (Err Memory) = ⊤
