-- Part ends that are right of the text are right in its buffer (Whole).
use Rattle.source_run.proofs.Whole.{laid_read, laid_ends}
use Rattle.source_run.proofs.run_noted.Goals as goal

pub run_command-requires-clause-read : goal.run_command-requires-clause-read
run_command-requires-clause-read c = laid_read c.requires.laid

pub run_command-requires-clause-part_ends : goal.run_command-requires-clause-part_ends
run_command-requires-clause-part_ends c = laid_ends c.requires.laid c.note_ends.ensures
