-- The nesting left falls from a Plus to its parts. The helper has the nesting left for the parts, so its measure is
-- between that of its Plus and that of its parts.
use Rattle.std.proofs.Common.{◌+◌, ◌*◌}
use Rattle.text_conditions.proofs.+expression_two_expressions.Given as goal

abbrev pub decreases-expression : goal.decreases-expression
decreases-expression l = 2 * l.nest

abbrev pub decreases-two_expressions : goal.decreases-two_expressions
decreases-two_expressions l = 2 * l.nest + 1
