-- A byte from 10 to 13 that is not 10, 11 or 12 is 13, and one outside begins no expression.
use Rattle.std.proofs.Common.{ℕ, ◌≡◌, ◌≤◌, ◌<◌, inr, arith}
use Rattle.text.specs.Reading.{decline, expression_of}
use Rattle.text.proofs.Heads.{is_no_expression}
use Rattle.text_conditions.specs.Code.{expressions}
use Rattle.text_conditions.proofs.Parts.{declines, constant_told}
use Rattle.text_conditions.proofs.one_byte_constant.Goals as goal

below : {b : ℕ} → b < 0x10 → b ≡ 0x13 → ⊥
below h e = omega arith

above : {b : ℕ} → 0x13 < b → b ≡ 0x13 → ⊥
above h e = omega arith

thirteen : (b : ℕ) → 0x10 ≤ b → b ≤ 0x13 → (b ≡ 0x10 → ⊥) → (b ≡ 0x11 → ⊥) → (b ≡ 0x12 → ⊥) → b ≡ 0x13
thirteen b l h n0 n1 n2 = omega arith

pub returns-then-byte-lt-CONSTANT : goal.returns-then-byte-lt-CONSTANT
unfolding expression_of decline
returns-then-byte-lt-CONSTANT c nest m =
    let no = c.requires in
    rw (is_no_expression no.no_constant no.no_variable no.no_plus (below c.if-byte-lt-CONSTANT.true))
    (declines expressions m m c.decline.ensures)

pub returns-then-byte-gt-ONE_BYTE_CONSTANT : goal.returns-then-byte-gt-ONE_BYTE_CONSTANT
unfolding expression_of decline
returns-then-byte-gt-ONE_BYTE_CONSTANT c nest m =
    let no = c.requires in
    rw (is_no_expression no.no_constant no.no_variable no.no_plus (above c.if-byte-gt-ONE_BYTE_CONSTANT.true))
    (declines expressions m m c.decline-then-byte-gt-ONE_BYTE_CONSTANT.ensures)

pub returns : goal.returns
returns c nest m =
    let no = c.requires in
    let byte =
    thirteen _ c.if-byte-lt-CONSTANT.false c.if-byte-gt-ONE_BYTE_CONSTANT.false no.no_constant no.no_variable no.no_plus
    in
    constant_told _ nest _ _ m (inr byte) (c.constant.ensures m)
