-- The measure is twice the nesting left, and one more for a side: the nesting left falls from a sum to its sides, and a
-- side that is a sum is written as an expression.
use Rattle.std.proofs.Common.{◌*◌, ◌+◌}
use Rattle.compile_conditions.proofs.+write_expression_write_side.Given as goal

abbrev pub decreases-write_expression : goal.decreases-write_expression
decreases-write_expression l = 2 * l.nest

abbrev pub decreases-write_side : goal.decreases-write_side
decreases-write_side l = 2 * l.nest + 1
