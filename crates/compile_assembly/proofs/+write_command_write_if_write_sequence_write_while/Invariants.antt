-- The measure is twice the nesting left, and one more for the function that every command goes through: a construct's
-- function is called with the nesting left, and calls for its parts with one less.
use Rattle.std.proofs.Common.{◌*◌, ◌+◌}
use Rattle.compile_assembly.proofs.+write_command_write_if_write_sequence_write_while.Given as goal

abbrev pub decreases-write_command : goal.decreases-write_command
decreases-write_command l = 2 * l.nest + 1

abbrev pub decreases-write_if : goal.decreases-write_if
decreases-write_if l = 2 * l.nest

abbrev pub decreases-write_sequence : goal.decreases-write_sequence
decreases-write_sequence l = 2 * l.nest

abbrev pub decreases-write_while : goal.decreases-write_while
decreases-write_while l = 2 * l.nest
