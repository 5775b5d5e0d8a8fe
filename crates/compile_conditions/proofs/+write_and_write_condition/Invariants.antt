-- The measure is twice the nesting left, and one more for every condition: behind the Nots in front of it And's
-- function is called with the nesting left there, and calls for a side with one less.
use Rattle.std.proofs.Common.{◌*◌, ◌+◌}
use Rattle.compile_conditions.proofs.+write_and_write_condition.Given as goal

abbrev pub decreases-write_and : goal.decreases-write_and
decreases-write_and l = 2 * l.nest

abbrev pub decreases-write_condition : goal.decreases-write_condition
decreases-write_condition l = 2 * l.nest + 1
