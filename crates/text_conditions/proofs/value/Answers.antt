-- At each return the tests that led there say what the operand is read as.
use mir.Val.{bool_byte}
use Rattle.std.proofs.Common.{◌≡◌, ◌+◌, Bool, true, false, length, refl, ◌∙◌, arith}
use Rattle.std.specs.Prelude.{if◌then◌else◌}
use borrow.Author.Tests.{lt-leb, le-leb}
use Rattle.base.specs.Acts.{then', give}
use Rattle.text.specs.Reading.{there, due, pass, decline, operand}
use Rattle.text_conditions.specs.Code.{values}
use Rattle.text_conditions.proofs.Parts.{noted_none, declines, tells}
use Rattle.text_conditions.proofs.value.Goals as goal

one_if : (t : Bool) → bool_byte t ≡ (if t then 1 else 0)
one_if true = refl
one_if false = refl

pub returns-then-text-at : goal.returns-then-text-at
unfolding operand there due pass decline then' give
returns-then-text-at c m =
    rw (lt-leb (c.args.at + 1) (length c.args.text.now) (omega arith)) (declines _ _ _ c.decline.ensures)

pub returns-then-v-gt1 : goal.returns-then-v-gt1
unfolding operand there due pass decline then' give
returns-then-v-gt1 c m =
    rw (le-leb (c.args.at + 1) (length c.args.text.now) (omega arith), lt-leb _ 1 c.if-v-gt1.true)
    (declines _ _ _ c.decline-then-v-gt1.ensures)

pub returns : goal.returns
unfolding operand there due pass decline then' give
returns c m =
    rw (
      le-leb (c.args.at + 1) (length c.args.text.now) (omega arith),
      le-leb _ 1 c.if-v-gt1.false,
      c.from.ensures ∙ one_if _,
    )
    (tells (values c.args.flag) _ _ _ _ (noted_none m))
