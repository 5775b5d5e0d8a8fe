-- Demand 3 in pieces (document 02, W7): the four calls in a row, of which the third is made in pieces, each with its
-- own budget. The proof of the same spelling stands in proofs/.
use Rattle.std.specs.Prelude.{◌≡◌, ℕ, ◌*◌, ◌≤◌, List, take}
use Rattle.base.specs.Acts.{◌>>=◌, ◌>>◌, give}
use Rattle.base.specs.Answers.{Answer, gives}
use Rattle.base.specs.Ends.{Ran}
use Rattle.base.specs.Rows.{Row, call, answered}
use Rattle.text.specs.Syntax.{Command}
use Rattle.text.specs.Reading.{read_text}
use Rattle.text.specs.Encoding.{Bytes}
use Rattle.text.specs.declared.Sizes.{Sizes}
use Rattle.source.specs.Calls.{run_source}
use Rattle.machine.specs.Calls.{fresh_state, without_state}
use Rattle.machine.specs.Pieces.{in_pieces, total}
use Rattle.fitting.specs.Rows.{Lent, buffers, compiling, loading, reading_back, fit}
use Rattle.fitting.specs.Demand3.{Ready}

-- Running in pieces: the first from a fresh machine, each later one from the state and the memory that the one before
-- left
abbrev pub running_in_pieces : Sizes → ℕ → List ℕ → Row Lent Ran
running_in_pieces z b bs l =
    let code = take (5 * z.records) l.code in
    let r = without_state (in_pieces code l.memory z.depth z.cells fresh_state b bs) in
    call r.0 (buffers l.code l.table r.1 l.store)

-- Compiling, loading, running in pieces, reading back
unfoldable pub fit_in_pieces : List ℕ → Lent → ℕ → List ℕ → Answer Ran × Lent
fit_in_pieces text l b bs =
    answered ((do z ← compiling text; loading z; ran ← running_in_pieces z b bs; reading_back z; give ran) l)

-- It gives and leaves what the four calls with one run under the total give and leave, whatever the text and the
-- buffers.
abbrev pub RowsInPieces : Type 0
RowsInPieces = (text : List ℕ) (l : Lent) (b : ℕ) (bs : List ℕ) → total b bs ≤ 4294967295
    → fit_in_pieces text l b bs ≡ fit text l (total b bs)

-- Demand 3 in pieces: for an accepted text the pieces together give what `run_source` gives under the total, and the
-- store read back after the last is the one that it leaves.
abbrev pub PiecesFitted : Type 0
PiecesFitted = (text : List ℕ) → Bytes text → (c : Command) → read_text text ≡ gives c
    → (l : Lent) → Ready c (record { code = l.code; table = l.table }) l.memory l.store
    → (b : ℕ) (bs : List ℕ) → total b bs ≤ 4294967295
    → let r = fit_in_pieces text l b bs in run_source text l.store (total b bs) ≡ (r.0, r.1.store)
