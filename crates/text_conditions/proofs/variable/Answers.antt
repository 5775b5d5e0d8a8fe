-- At each return the tests that led there say what the operand is read as.
use Rattle.std.proofs.Common.{◌+◌, length, arith}
use borrow.Author.Tests.{lt-leb, le-leb}
use Rattle.base.specs.Acts.{then', give}
use Rattle.text.specs.Reading.{there, due, pass, decline, operand}
use Rattle.text_conditions.specs.Code.{variables}
use Rattle.text_conditions.proofs.Parts.{noted_one, declines, tells}
use Rattle.text_conditions.proofs.variable.Goals as goal

pub returns-then-text-at : goal.returns-then-text-at
unfolding operand there due pass decline then' give
returns-then-text-at c =
    rw (lt-leb (c.args.at + 1) (length c.args.text.now) (omega arith)) (declines _ _ _ c.decline.ensures)

pub returns-then-v-gt-LAST_VARIABLE : goal.returns-then-v-gt-LAST_VARIABLE
unfolding operand there due pass decline then' give
returns-then-v-gt-LAST_VARIABLE c =
    rw (le-leb (c.args.at + 1) (length c.args.text.now) (omega arith), lt-leb _ 63 c.if-v-gt-LAST_VARIABLE.true)
    (declines _ _ _ c.decline-then-v-gt-LAST_VARIABLE.ensures)

pub returns : goal.returns
unfolding operand there due pass decline then' give
returns c =
    rw (
      le-leb (c.args.at + 1) (length c.args.text.now) (omega arith),
      le-leb _ 63 c.if-v-gt-LAST_VARIABLE.false,
      c.from.ensures,
    )
    (tells variables _ _ _ _ (noted_one _ _ c.told-named (omega arith)))
