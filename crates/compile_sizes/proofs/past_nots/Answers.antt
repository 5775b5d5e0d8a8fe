-- At every turn a condition is read, and the byte there is a Not's or the one behind the Nots.
use Rattle.std.proofs.Common.{arith}
use Rattle.text.proofs.Opened.{condition_opened}
use Rattle.compile_sizes.proofs.Nots.{one_passed}
use Rattle.compile_sizes.proofs.past_nots.Goals as goal

pub bounds-text-at : goal.bounds-text-at
bounds-text-at c = (condition_opened _ _ _ (c.loop-at.invariant _ _ c.requires.1.1).read).inside

pub overflow_sub-nest : goal.overflow_sub-nest
overflow_sub-nest c = (condition_opened _ _ _ (c.loop-at.invariant _ _ c.requires.1.1).read).nested

pub loop-at-smaller : goal.loop-at-smaller
loop-at-smaller c = omega (arith, (condition_opened _ _ _ (c.loop-at.invariant _ _ c.requires.1.1).read).nested)

pub loop-at-preserved : goal.loop-at-preserved
loop-at-preserved c = one_passed c.loop-at.invariant c.loop-at-test.true
