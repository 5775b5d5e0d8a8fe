-- The measure is twice the nesting left, and one more for every condition: behind the Nots in front of it And's
-- function is called with the nesting left there, and calls for a side with one less.
use Rattle.std.proofs.Common.{◌*◌, ◌+◌}
use Rattle.compile_sizes.proofs.+both_size_condition_size.Given as goal

abbrev pub decreases-both_size : goal.decreases-both_size
decreases-both_size l = 2 * l.nest

abbrev pub decreases-condition_size : goal.decreases-condition_size
decreases-condition_size l = 2 * l.nest + 1
