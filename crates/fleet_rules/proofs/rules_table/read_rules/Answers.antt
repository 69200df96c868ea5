use Rattle.std.proofs.Common.{◌≡◌, false, true, nat_le, length, rules, refl}
use Rattle.std.specs.Str.{is_utf8}
use Rattle.std.proofs.lemmas.Bool.{false_from_ne_true}
use Rattle.std.proofs.lemmas.Str.{IsUtf8-from_is_utf8, is_utf8-from_IsUtf8}
use Rattle.tail_text.specs.declared.refusal.TheConstants.{SIZE_LIMIT}
use Rattle.fleet_rules.proofs.rules_table.read_rules.Goals as goal

-- bytes that std refuses are no text
pub returns-in_default : goal.returns-in_default
returns-in_default c =
    let small : nat_le (length c.args.bytes.now) SIZE_LIMIT ≡ true = search rules in
    let bad : is_utf8 c.args.bytes.now ≡ false = false_from_ne_true _ (λ e. c.in_default.ensures.cases.0 (IsUtf8-from_is_utf8 _ e)) in
    rw (c.refused-in_default.ensures, small, bad) refl

-- toml reads the same bytes
pub returns-in-Ok-table_from_str : goal.returns-in-Ok-table_from_str
returns-in-Ok-table_from_str c =
    let small : nat_le (length c.args.bytes.now) SIZE_LIMIT ≡ true = search rules in
    let (same, utf8) = c.in-Ok.ensures.cases in
    let good = is_utf8-from_IsUtf8 _ utf8 in
    rw (small, good, ← same, c.in-Ok-table_from_str.ensures.ok) c.rules_in-rules.ensures

-- what toml refuses for another cause than memory is no TOML
pub returns-else-is_memory : goal.returns-else-is_memory
returns-else-is_memory c =
    let small : nat_le (length c.args.bytes.now) SIZE_LIMIT ≡ true = search rules in
    let (same, utf8) = c.in-Ok.ensures.cases in
    let good = is_utf8-from_IsUtf8 _ utf8 in
    let none = c.in-Err.ensures.refused (λ e. cc (c.if-is_memory.ensures.1 e)) in
    rw (c.refused-else-is_memory.ensures, small, good, ← same, none) refl
