-- The first refusal of a list of checks: each check says what keeps the text from being read on, and the first that fails decides.
-- For book_maker/src/looked_up.rt, fleet_rules/src/entries.rt and others.
use Rattle.std.specs.Prelude.{ℕ, Bool, true, false, List, [], ◌∷◌, Result, Ok, Err}
use Rattle.tail_text.specs.declared.bad.Bad.{Bad}

-- a check: where it fails, this is why, and what follows is not looked at
abbrev pub must : {A E : Type 0} → Bool → E → Result A E → Result A E
must true why next = next
must false why next = Err why

-- a look at a value: where it gives none, this is why, and what follows is not looked at
abbrev pub look : {A B E : Type 0} → Result A E → (A → Result B E) → Result B E
look (Ok a) next = next a
look (Err why) next = Err why

-- what each one gives, or the refusal of the first that gives nothing
abbrev pub look_each : {A B E : Type 0} → (A → Result B E) → List A → Result (List B) E
look_each give [] = Ok []
look_each give (a ∷ more) =
    look (give a) (λ first.
    look (look_each give more) (λ rest.
    Ok (first ∷ rest)))

-- what a text gives, or the code of a text that is not in its grammar
abbrev pub or_code : {A : Type 0} → ℕ → Result A Bad → Result A ℕ
or_code code (Ok value) = Ok value
or_code code (Err why) = Err code
