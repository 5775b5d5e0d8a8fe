-- The measure is twice the nesting left, and one more for two sides: the nesting left falls from a sum to its sides,
-- and their function has the nesting left for them.
use Rattle.std.proofs.Common.{◌*◌, ◌+◌}
use Rattle.compile_sizes.proofs.+expression_size_two_sizes.Given as goal

abbrev pub decreases-expression_size : goal.decreases-expression_size
decreases-expression_size l = 2 * l.nest

abbrev pub decreases-two_sizes : goal.decreases-two_sizes
decreases-two_sizes l = 2 * l.nest + 1
