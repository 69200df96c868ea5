-- What a log tells of events that are due: all of them, or a front of them where it failed. Parts that are told one
-- after the other are told together; the log had not ceased in between, since one that has ceased stays so. A front of
-- a later part, behind parts that were told whole, is a front of all; so is a front of the first part, since only what
-- is left grows. An event at which the log is torn stays the one that comes next.
use Rattle.std.proofs.Common.{◌∙◌, inl, inr, List, [], ◌∷◌, ◌++◌, refl, sym, ap, subst, append_assoc, append-nil, arith}
use Rattle.branch_marks.specs.declared.event.Event.{Event}
use Rattle.branch_marks.specs.LogShown.{LogShown}
use Rattle.branch_marks.specs.TreeLog.{Notes, NotesNothing, NotesFront, IsCut, IsLater}

pub later_none : (log : LogShown) → IsLater log log
later_none log = record { ceases = λ runs. runs; counts = omega arith }

pub later_then : (old between new : LogShown) → IsLater old between → IsLater between new → IsLater old new
later_then old between new first second =
    record { ceases = λ runs. first.ceases (second.ceases runs); counts = omega (arith, first.counts, second.counts) }

pub notes_none : (log : LogShown) → Notes log log []
notes_none log = λ told runs was. subst (λ (t : List Event). log.tells t) (sym (append-nil told)) was

pub notes_then : (old between new : LogShown) (one two : List Event) → IsLater between new → Notes old between one → Notes between new two → Notes old new (one ++ two)
notes_then old between new one two later first second = λ told runs was.
    subst (λ (t : List Event). new.tells t) (append_assoc told one two) (second (told ++ one) runs (first told (later.ceases runs) was))

-- a cut in what is due later is a cut in all that is due
pub cut_later : (log : LogShown) (told front due : List Event) → IsCut log (told ++ front) due → IsCut log told (front ++ due)
cut_later log told front due cut =
    let same = append_assoc told front cut.front in
    record {
      front = front ++ cut.front;
      rest = cut.rest;
      split = ap (λ (es : List Event). front ++ es) cut.split ∙ sym (append_assoc front cut.front cut.rest);
      state = elim cut.state [
        | inl h ↦ inl (subst (λ (t : List Event). log.tells t) same h)
        | inr h ↦ inr (h.0, h.1, h.2, subst (λ (t : List Event). log.torn t h.0) same h.3)
      ];
    }

-- a cut in the first of what is due
pub cut_front : (log : LogShown) (told due more : List Event) → IsCut log told due → IsCut log told (due ++ more)
cut_front log told due more cut = record {
  front = cut.front;
  rest = cut.rest ++ more;
  split = ap (λ (es : List Event). es ++ more) cut.split ∙ append_assoc cut.front cut.rest more;
  state = elim cut.state [ inl h ↦ inl h | inr h ↦ inr (h.0, h.1 ++ more, ap (λ (es : List Event). es ++ more) h.2, h.3) ];
}

pub front_one : (old new : LogShown) (event : Event) → NotesNothing old new event → NotesFront old new (event ∷ [])
front_one old new event failed = λ told runs was. record {
  front = [];
  rest = event ∷ [];
  split = refl;
  state = elim (failed told runs was) [
    | inl h ↦ inl (subst (λ (t : List Event). new.tells t) (sym (append-nil told)) h)
    | inr h ↦ inr (event, [], refl, subst (λ (t : List Event). new.torn t event) (sym (append-nil told)) h)
  ];
}

pub front_first : (old new : LogShown) (due more : List Event) → NotesFront old new due → NotesFront old new (due ++ more)
front_first old new due more cuts = λ told runs was. cut_front new told due more (cuts told runs was)

pub front_whole : (old new : LogShown) (due : List Event) → Notes old new due → NotesFront old new due
front_whole old new due notes = λ told runs was. record { front = due; rest = []; split = sym (append-nil due); state = inl (notes told runs was) }

pub front_then : (old between new : LogShown) (one two : List Event) → IsLater between new → Notes old between one → NotesFront between new two
    → NotesFront old new (one ++ two)
front_then old between new one two later notes cuts = λ told runs was.
    cut_later new told one two (cuts (told ++ one) runs (notes told (later.ceases runs) was))

-- a log that was told nothing was told a front
pub front_none : (log : LogShown) (due : List Event) → NotesFront log log due
front_none log due = λ told runs was. record { front = []; rest = due; split = refl; state = inl (notes_none log told runs was) }
