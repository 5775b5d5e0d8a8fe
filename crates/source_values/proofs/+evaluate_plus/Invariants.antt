-- Twice the nesting left, and one more for the expression of any kind.
use Rattle.std.proofs.Common.{◌+◌, ◌*◌}
use Rattle.source_values.proofs.+evaluate_plus.Given as goal

abbrev pub decreases-evaluate : goal.decreases-evaluate
decreases-evaluate l = 2 * l.nest + 1

abbrev pub decreases-plus : goal.decreases-plus
decreases-plus l = 2 * l.nest
