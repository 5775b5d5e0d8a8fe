-- Demand 3 in pieces (Pieces: RowsInPieces, PiecesFitted): pieces are one run (machine's `pieces`), in whatever row.
use mathlib.Core.Path.{sym, ◌∙◌, ap}
use Prim.Native.Nat.{◌*◌}
use lib.ListN.{take}
use Rattle.base.specs.Acts.{◌>>=◌, ◌>>◌, give}
use Rattle.base.specs.Answers.{Answer}
use Rattle.base.specs.Ends.{Ran}
use Rattle.base.specs.Rows.{call, answered}
use Rattle.machine.specs.Calls.{without_state}
use Rattle.machine.proofs.Pieces.{pieces}
use Rattle.fitting.specs.Rows.{Lent, buffers, compiling, loading, reading_back, fit}
use Rattle.fitting.specs.Pieces.{fit_in_pieces, RowsInPieces, PiecesFitted}
use Rattle.fitting.proofs.Demand3.{rows_fitted}

pub rows_in_pieces : RowsInPieces
unfolding fit fit_in_pieces
rows_in_pieces text l b bs k = λ i. answered ((do
  z ← compiling text
  loading z
  ran ← (λ l.
      let r = without_state (pieces (take (5 * z.records) l.code) l.memory z.depth z.cells b bs k i) in
      call r.0 (buffers l.code l.table r.1 l.store))
  reading_back z
  give ran) l)

pub pieces_fitted : PiecesFitted
pieces_fitted text bytes c read l ready b bs k =
    (rows_fitted text bytes c read l ready _).same_run
    ∙ ap (λ (x : Answer Ran × Lent). (x.0, x.1.store)) (sym (rows_in_pieces text l b bs k))
