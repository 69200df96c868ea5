-- What one read of a record takes from the records that are left.
--
-- These are defined with a number of turns, one more than bytes are left. The hard part is that the number does not
-- matter where it is large enough. Between two records the end of the text gives none, so a record that is found took a
-- byte at least; and a step that ends a record leaves the machine between two again, state by state. So a read that
-- finds a record takes the first that is left, and one that finds none is at the end.
use Rattle.std.proofs.Common.{◌≡◌, ◌∙◌, ◌+◌, ◌<◌, ◌≤◌, ℕ, zero, suc, Bool, true, false, List, [], ◌∷◌, ◌++◌, Option, Some, None, length, refl, ap, inl, arith, add-one, if◌then◌else◌, ◌==◌, ◌&&◌}
use Rattle.csv.specs.Machine.{Read, next_record, step, in_field, start_field, start_record, is_end, ends_at_end, ends_with, after_end, is_byte, fields_after, field_after}
use Rattle.csv.specs.Reading.{default_config, records_from, records_next, Reached, ReadRecord, source_of, Ready, is_flexible, reader_trim, took_first}
use Rattle.csv.specs.declared.parser.Config.{Config}
use Rattle.csv.specs.declared.parser.Terminator.{Terminator}
use Rattle.csv.specs.declared.parser.Terminator.TheVariants as term
use Rattle.csv.specs.declared.parser.State.{State}
use Rattle.csv.specs.declared.parser.State.TheVariants as st
use Rattle.csv.specs.declared.parser.Action.{Action}
use Rattle.csv.specs.declared.reader.Reader.{Reader}
use Rattle.csv.proofs.ReadFacts.{rows-more, rows-end}
use Rattle.std.specs.Bool.{MatchBool}
use Rattle.csv.specs.declared.reader.Trim.TheVariants as trim
use Rattle.std.specs.Borrow.{Bor}
use Rattle.table_records.specs.inside.RecordsParts.{rest_of, left_of, IsReading}

-- a step that ends a record leaves the machine between two records
abbrev Ends : State × Action → Type 0
Ends p = is_end p.1 ≡ true → ends_at_end p.0 ≡ false

after_end-between : (t : Terminator) (c : ℕ) → ends_at_end (after_end t c) ≡ false
after_end-between term.CRLF c =
    elim (c == 13) as (λ b. ends_at_end (if b then st.AfterCr else st.StartRecord) ≡ false) [ true ↦ refl | false ↦ refl ]
after_end-between (term.Any t) c = refl

either : (b : Bool) (p q : State × Action) → Ends p → Ends q → Ends (if b then p else q)
either true p q hp hq = hp
either false p q hp hq = hq

in_field-ends : (cfg : Config) (c : ℕ) → Ends (in_field cfg c)
in_field-ends cfg c =
    either (c == cfg.delimiter) _ _ (λ e. cc e)
    (either (ends_with cfg.terminator c) _ _ (λ e. after_end-between cfg.terminator c) (λ e. cc e))

start_field-ends : (cfg : Config) (c : ℕ) → Ends (start_field cfg c)
start_field-ends cfg c = either (cfg.quoting && (c == cfg.quote)) _ _ (λ e. cc e) (in_field-ends cfg c)

start_record-ends : (cfg : Config) (c : ℕ) → Ends (start_record cfg c)
start_record-ends cfg c =
    either (ends_with cfg.terminator c) _ _ (λ e. cc e)
    (either (is_byte cfg.comment c) _ _ (λ e. cc e) (start_field-ends cfg c))

step-ends : (cfg : Config) (s : State) (c : ℕ) → Ends (step cfg s c)
step-ends cfg st.StartRecord c = start_record-ends cfg c
step-ends cfg st.StartField c = start_field-ends cfg c
step-ends cfg st.InField c = in_field-ends cfg c
step-ends cfg st.InQuoted c =
    either (cfg.quoting && (c == cfg.quote)) _ _ (λ e. cc e)
    (either (cfg.quoting && is_byte cfg.escape c) _ _ (λ e. cc e) (λ e. cc e))
step-ends cfg st.InEscape c = λ e. cc e
step-ends cfg st.AfterQuote c =
    either (cfg.quoting && cfg.double_quote && (c == cfg.quote)) _ _ (λ e. cc e) (in_field-ends cfg c)
step-ends cfg st.InComment c = either (c == 10) _ _ (λ e. cc e) (λ e. cc e)
step-ends cfg st.AfterCr c = either (c == 10) _ _ (λ e. cc e) (start_record-ends cfg c)

-- the end of the text gives a record or none
at_end : (b : Bool) (r : List (List ℕ)) (p : Read) → (if b then Some (r, st.StartRecord, []) else None) ≡ Some p
    → (ends_at_end p.1 ≡ false) × (length p.2 ≤ 0)
at_end true r p e =
    let q : p ≡ (r, st.StartRecord, []) = cc e in rw q (refl, omega arith)
at_end false r p e = cc e

-- a byte gives a record, or the rest of the text does
at_byte : (b : Bool) (q : Read) (more : Option Read) (p : Read) (n : ℕ) → (b ≡ true → ends_at_end q.1 ≡ false) → length q.2 ≤ n
    → (more ≡ Some p → (ends_at_end p.1 ≡ false) × (length p.2 ≤ n))
    → (if b then Some q else more) ≡ Some p
    → (ends_at_end p.1 ≡ false) × (length p.2 ≤ n)
at_byte true q more p n ends short next e = let same : q ≡ p = cc e in rw (← same) (ends refl, short)
at_byte false q more p n ends short next e = next e

-- after a record the machine stands between two, and no byte came back
after-record : (cfg : Config) (s : State) (fields : List (List ℕ)) (field xs : List ℕ) (p : Read) → next_record cfg s fields field xs ≡ Some p
    → (ends_at_end p.1 ≡ false) × (length p.2 ≤ length xs)
unfolding next_record
after-record cfg s fields field [] p e = at_end (ends_at_end s) (fields ++ (field ∷ [])) p e
after-record cfg s fields field (c ∷ rest) p e =
    let go = at_byte (is_end (step cfg s c).1) (fields_after (step cfg s c).1 fields field, (step cfg s c).0, rest) _ p (length rest)
    (step-ends cfg s c) (omega arith)
    (after-record cfg (step cfg s c).0 (fields_after (step cfg s c).1 fields field) (field_after (step cfg s c).1 c field) rest p) e in
    (go.0, omega arith)

-- between two records a record takes a byte at least
takes-byte : (cfg : Config) (s : State) (fields : List (List ℕ)) (field xs : List ℕ) (p : Read) → ends_at_end s ≡ false
    → next_record cfg s fields field xs ≡ Some p → length p.2 < length xs
unfolding next_record
takes-byte cfg s fields field [] p between e = let bad : None ≡ Some p = rw between at e in cc bad
takes-byte cfg s fields field (c ∷ rest) p between e =
    let go = at_byte (is_end (step cfg s c).1) (fields_after (step cfg s c).1 fields field, (step cfg s c).0, rest) _ p (length rest)
    (step-ends cfg s c) (omega arith)
    (after-record cfg (step cfg s c).0 (fields_after (step cfg s c).1 fields field) (field_after (step cfg s c).1 c field) rest p) e in
    omega arith

-- the turns that are counted do not matter, where there are enough
same-next : (cfg : Config) (n m : ℕ) (s : State) (xs : List ℕ) (o : Option Read) → next_record cfg s [] [] xs ≡ o
    → ((p : Read) → next_record cfg s [] [] xs ≡ Some p → records_from cfg n p.1 p.2 ≡ records_from cfg m p.1 p.2)
    → records_next (records_from cfg n) o ≡ records_next (records_from cfg m) o
same-next cfg n m s xs None e more = refl
same-next cfg n m s xs (Some p) e more = ap (λ (t : List (List (List ℕ))). p.0 ∷ t) (more p e)

enough : (cfg : Config) (n m : ℕ) (s : State) (xs : List ℕ) → ends_at_end s ≡ false → length xs < n → length xs < m
    → records_from cfg n s xs ≡ records_from cfg m s xs
unfolding records_from
enough cfg zero m s xs between a b = absurd (omega arith)
enough cfg (suc n) zero s xs between a b = absurd (omega arith)
enough cfg (suc n) (suc m) s xs between a b =
    same-next cfg n m s xs (next_record cfg s [] [] xs) refl (λ p e.
    let short = takes-byte cfg s [] [] xs p between e in
    let after = after-record cfg s [] [] xs p e in
    enough cfg n m p.1 p.2 after.0 (omega arith) (omega arith))

-- where the next record is p, it is the first of those that are left
rest-next : (s : State) (xs : List ℕ) (p : Read) → ends_at_end s ≡ false → next_record default_config s [] [] xs ≡ Some p
    → (rest_of s xs ≡ p.0 ∷ rest_of p.1 p.2) × (ends_at_end p.1 ≡ false)
unfolding records_from
rest-next s xs p between e =
    let short = takes-byte default_config s [] [] xs p between e in
    let after = after-record default_config s [] [] xs p e in
    let fuel : length p.2 < length p.2 + 1 = omega arith in
    (rw (add-one, e) (ap (λ (t : List (List (List ℕ))). p.0 ∷ t) (enough default_config (length xs) (length p.2 + 1) p.1 p.2 after.0 short fuel)), after.0)

-- where there is no next record, none is left
pub rest-none : (s : State) (xs : List ℕ) → next_record default_config s [] [] xs ≡ None → rest_of s xs ≡ []
unfolding records_from
rest-none s xs e = rw (add-one, e) refl

-- the same, of what a read tells apart
rest-read : (s b : State) (y z : List ℕ) (f : List (List ℕ)) (p : Read) → ends_at_end s ≡ false → next_record default_config s [] [] y ≡ Some p
    → f ≡ p.0 → p.1 ≡ b → p.2 ≡ z
    → (rest_of s y ≡ f ∷ rest_of b z) × (ends_at_end b ≡ false)
rest-read s b y z f p between next is state left = rw (is, ← state, ← left) (rest-next s y p between next)

-- a read that found a record took the first of those that are left
pub rest-more : {R : Type 0} (rem : R → Option (List ℕ)) (a b : Reader R) (f : List (List ℕ)) (y : List ℕ)
    → a.config ≡ default_config → source_of rem a ≡ Some y → ends_at_end a.state ≡ false → ReadRecord rem a b true f
    → (z : List ℕ) × (source_of rem b ≡ Some z) × (rest_of a.state y ≡ f ∷ rest_of b.state z) × (ends_at_end b.state ≡ false)
unfolding Reached
rest-more rem a b f y config source between r =
    let (z, at_z, reached) = rows-more rem a b f default_config a.state y y [] config source (refl, refl) r in
    let (p, next, is, (state, left)) = reached in
    let go = rest-read a.state b.state y z f p between next is state left in
    (z, at_z, go.0, go.1)

-- the bytes that a reader of a slice has left are known
abbrev pub known : Bor (List ℕ) → Option (List ℕ)
known s = Some s.now

-- a read that found a record left the reader at the records after it
pub reading-more : (a b : Reader (Bor (List ℕ))) (f : List (List ℕ)) → IsReading a → ReadRecord known a b true f → reader_trim b ≡ trim.None
    → Ready b → is_flexible b ≡ is_flexible a
    → (left_of a ≡ f ∷ left_of b) × IsReading b
reading-more a b f h r plain ready bends =
    let (z, at_z, rest, between) = rest-more known a b f h.source.0 h.config h.source.1 h.between r in
    (rw (h.source.1, at_z) rest, record { config = r.2 ∙ h.config; trim = plain; ready = ready; bends = bends ∙ h.bends; between = between; source = (z, at_z) })

-- a read that found none was at the end
pub reading-end : (a b : Reader (Bor (List ℕ))) (f : List (List ℕ)) → IsReading a → ReadRecord known a b false f → left_of a ≡ []
reading-end a b f h r =
    rw h.source.1 (rest-none a.state h.source.0 (rows-end known a b f default_config h.source.0 h.config h.source.1 r))

-- what one read says of the records that are left
pub read-matches : (found : Bool) (a b : Reader (Bor (List ℕ))) (f : List (List ℕ)) → IsReading a → ReadRecord known a b found f
    → took_first b ≡ true → is_flexible b ≡ is_flexible a
    → MatchBool found ((left_of a ≡ f ∷ left_of b) × IsReading b) (left_of a ≡ [])
read-matches true a b f h r begun bends = reading-more a b f h r (r.3 ∙ h.trim) (inl begun) bends
read-matches false a b f h r begun bends = reading-end a b f h r
