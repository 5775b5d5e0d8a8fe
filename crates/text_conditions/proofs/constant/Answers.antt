-- The operand's bytes are there, or the text ends too early.
use Rattle.std.proofs.Common.{◌+◌, length, get_or, arith}
use borrow.Author.Tests.{lt-leb, le-leb}
use Rattle.base.specs.Acts.{then'}
use Rattle.text.specs.Reading.{there, number_due, number}
use Rattle.text_shape.specs.Shape.{constant_width}
use Rattle.text_conditions.specs.Code.{numbers}
use Rattle.text_conditions.proofs.Parts.{noted_none, declines, tells}
use Rattle.text_conditions.proofs.constant.Goals as goal

pub returns-then-text-at : goal.returns-then-text-at
unfolding number there number_due then'
returns-then-text-at c m =
    let text = c.args.text.now in
    let end = c.args.at + 1 + constant_width (get_or text c.args.at 0) in
    rw (lt-leb end (length text) (omega arith)) (declines numbers _ _ c.decline.ensures)

pub returns : goal.returns
unfolding number there number_due then'
returns c m =
    let text = c.args.text.now in
    let end = c.args.at + 1 + constant_width (get_or text c.args.at 0) in
    rw (le-leb end (length text) (omega arith), c.constant_width-width.ensures) (tells numbers _ _ _ _ (noted_none m))
