-- A comparison, or any other condition.
use Rattle.std.proofs.Common.{false, arith}
use Rattle.text.proofs.Opened.{condition_opened}
use Rattle.source_values.proofs.guard.Goals as goal

pub bounds-text-at : goal.bounds-text-at
bounds-text-at c =
    let w = (condition_opened _ _ _ c.requires.read.is).inside in omega (arith, c.told-text)

pub returns-then-text-at-eq-LESS : goal.returns-then-text-at-eq-LESS
returns-then-text-at-eq-LESS c = c.smaller.ensures false
