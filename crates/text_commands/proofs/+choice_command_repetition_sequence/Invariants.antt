-- The nesting left falls from a command to its parts. A helper has the nesting left for the parts, so its measure is
-- between that of its command and that of its parts.
use Rattle.std.proofs.Common.{◌+◌, ◌*◌}
use Rattle.text_commands.proofs.+choice_command_repetition_sequence.Given as goal

abbrev pub decreases-choice : goal.decreases-choice
decreases-choice l = 2 * l.nest + 1

abbrev pub decreases-command : goal.decreases-command
decreases-command l = 2 * l.nest

abbrev pub decreases-repetition : goal.decreases-repetition
decreases-repetition l = 2 * l.nest + 1

abbrev pub decreases-sequence : goal.decreases-sequence
decreases-sequence l = 2 * l.nest + 1
