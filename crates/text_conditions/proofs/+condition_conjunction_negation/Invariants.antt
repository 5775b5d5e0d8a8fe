-- The nesting left falls from a condition to its parts. A helper has the nesting left for the parts, so its measure is
-- between that of its condition and that of its parts.
use Rattle.std.proofs.Common.{◌+◌, ◌*◌}
use Rattle.text_conditions.proofs.+condition_conjunction_negation.Given as goal

abbrev pub decreases-condition : goal.decreases-condition
decreases-condition l = 2 * l.nest

abbrev pub decreases-conjunction : goal.decreases-conjunction
decreases-conjunction l = 2 * l.nest + 1

abbrev pub decreases-negation : goal.decreases-negation
decreases-negation l = 2 * l.nest + 1
