-- `rename_front` writes the other kind's byte, and the new name where the record has one.
use Rattle.std.proofs.Common.{sym}
use Rattle.compile_translation.specs.Steps.{renamed_front}
use Rattle.compile_translation.proofs.rename_front.Goals as goal

pub returns-then-has_name : goal.returns-then-has_name
unfolding renamed_front
returns-then-has_name c = simp (sym c.if-has_name.ensures, c.from.ensures)

pub returns-else-has_name : goal.returns-else-has_name
unfolding renamed_front
returns-else-has_name c = simp (sym c.if-has_name.ensures)
