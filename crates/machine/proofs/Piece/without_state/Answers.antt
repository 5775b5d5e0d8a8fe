-- The same without the state, case by case.
use Rattle.std.proofs.Common.{ap, sym}
use Rattle.machine.specs.Calls.{ran_of}
use Rattle.machine.specs.Code.{told_piece}
use Rattle.machine.specs.declared.Piece.{Piece}
use Rattle.machine.proofs.Piece.without_state.Goals as goal

pub returns-in-Ended : goal.returns-in-Ended
unfolding ran_of
returns-in-Ended c = ap (λ (p : Piece). ran_of (told_piece p)) (sym c.in-Ended.is)

pub returns-in-Paused : goal.returns-in-Paused
unfolding ran_of
returns-in-Paused c = ap (λ (p : Piece). ran_of (told_piece p)) (sym c.in-Paused.is)
