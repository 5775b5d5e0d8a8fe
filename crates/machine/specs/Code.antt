-- What the code's answer of a call that runs machine code says: document 01's number and place, or what the run tells.
use Rattle.std.specs.Prelude.{Result}
use Rattle.base.specs.Answers.{Answer}
use Rattle.base.specs.Code.{answer, told_run}
use Rattle.base.specs.declared.Refusal.{Refusal}
use Rattle.machine.specs.Calls.{Told, finished, paused}
use Rattle.machine.specs.declared.Piece as Code
use Rattle.machine.specs.declared.Piece.TheVariants.{Ended, Paused}

abbrev pub told_piece : Code.Piece → Told
told_piece (Ended e) = finished (told_run e)
told_piece (Paused s) = paused s

abbrev pub piece_answer : Result Code.Piece Refusal → Answer Told
piece_answer piece = answer told_piece piece
