-- The nesting left falls from a command to its parts: twice the nesting left, and one more for a command of any kind.
-- In `execute` it falls with each turn of the loop too, and in `repeat` the ticks left bound the loop.
use Rattle.std.proofs.Common.{◌+◌, ◌*◌}
use Rattle.source.specs.Rules.{state}
use Rattle.source_commands.proofs.Loops.{Going, Turning}
use Rattle.source_commands.proofs.+choice_execute_repeat.Given as goal

abbrev pub decreases-choice : goal.decreases-choice
decreases-choice l = 2 * l.nest

abbrev pub decreases-execute : goal.decreases-execute
decreases-execute l = 2 * l.deepest + 1

abbrev pub decreases-repeat : goal.decreases-repeat
decreases-repeat l = 2 * l.nest

abbrev pub invariant-execute-loop-store : goal.invariant-execute-loop-store
invariant-execute-loop-store l =
    Going l.text l.start l.deepest (state l.initial.left 0 l.initial.mark l.initial.store) l.at l.nest
    (state l.left 0 l.mark l.store)

abbrev pub decreases-execute-loop-store : goal.decreases-execute-loop-store
decreases-execute-loop-store l = l.nest

abbrev pub invariant-repeat-loop-body : goal.invariant-repeat-loop-body
invariant-repeat-loop-body l =
    Turning l.text l.at l.nest (state l.initial.left 0 l.initial.mark l.initial.store) (state l.left 0 l.mark l.store)

abbrev pub decreases-repeat-loop-body : goal.decreases-repeat-loop-body
decreases-repeat-loop-body l = l.left
