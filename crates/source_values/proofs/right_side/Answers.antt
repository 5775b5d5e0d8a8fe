-- A sum, or any other expression.
use Rattle.std.proofs.Common.{arith}
use Rattle.text.proofs.Opened.{expression_opened}
use Rattle.source_values.proofs.right_side.Goals as goal

pub bounds-text-at : goal.bounds-text-at
bounds-text-at c =
    let w = (expression_opened _ _ _ c.requires.read.is).inside in omega (arith, c.told-text)
