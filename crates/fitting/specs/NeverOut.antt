-- "No run ends out of range from now on" (document 02, W8): no call gives such a run, nor does a row of calls, for any
-- text, code, state and buffers, under any budget. The proof of the same spelling stands in proofs/.
use Rattle.std.specs.Prelude.{◌≡◌, ℕ, List, ℤ}
use Rattle.base.specs.Answers.{Answer, gives, refused}
use Rattle.base.specs.Ends.{Fault, fault, Ran}
use Rattle.source.specs.Rules.{Store}
use Rattle.source.specs.Calls.{run_source, preview_source}
use Rattle.machine.specs.Memories.{Assembly}
use Rattle.machine.specs.Calls.{go_on, run_machine, run_assembly, without_state}
use Rattle.machine.specs.Pieces.{in_pieces}
use Rattle.machine.specs.declared.State.{State}
use Rattle.fitting.specs.Calls.{preview_machine}
use Rattle.fitting.specs.Rows.{Lent, fit, load_and_preview, AssemblyLent, assemble_and_run}
use Rattle.fitting.specs.Paired.{run_paired}
use Rattle.fitting.specs.Pieces.{fit_in_pieces}

-- What an answer gives is so; a refusal gives nothing
abbrev pub Given : {A : Type 0} → (A → Type 0) → Answer A → Type 0
Given P (gives a) = P a
Given P (refused number place) = Unit {0}

abbrev pub NotOut : Ran → Type 0
NotOut r = r.end ≡ fault Fault.out_of_range → ⊥

pub record NeverOut : Type 0 where
  -- texts, and their preview
  pub source : (text : List ℕ) (store : Store) (budget : ℕ) → Given NotOut (run_source text store budget).0
  pub source_preview : (text : List ℕ) (store : Store) (budget : ℕ)
      → Given NotOut (preview_source text store budget).0
  -- assembly
  pub assembly : (code : List ℕ) (m : Assembly) (budget : ℕ) → Given NotOut (run_assembly code m budget).0
  -- machine code: from a fresh machine, from a state, in pieces; its preview; with its table
  pub machine : (code : List ℕ) (memory : List ℤ) (D n budget : ℕ)
      → Given NotOut (without_state (run_machine code memory D n budget)).0
  pub state : (code : List ℕ) (memory : List ℤ) (D n : ℕ) (s : State) (budget : ℕ)
      → Given NotOut (without_state (go_on code memory D n s budget)).0
  pub pieces : (code : List ℕ) (memory : List ℤ) (D n : ℕ) (s : State) (b : ℕ) (bs : List ℕ)
      → Given NotOut (without_state (in_pieces code memory D n s b bs)).0
  pub machine_preview : (code : List ℕ) (memory : List ℤ) (D : ℕ) (t : List ℕ) (store : Store) (budget : ℕ)
      → Given NotOut (preview_machine code memory D t store budget).0
  pub paired : (code t : List ℕ) (store : Store) (D budget : ℕ)
      → Given NotOut (run_paired code t store D budget).0
  -- rows: the four calls, the four in pieces, a preview of what was compiled and loaded, assembling and running
  pub row : (text : List ℕ) (l : Lent) (budget : ℕ) → Given NotOut (fit text l budget).0
  pub row_in_pieces : (text : List ℕ) (l : Lent) (b : ℕ) (bs : List ℕ)
      → Given NotOut (fit_in_pieces text l b bs).0
  pub row_preview : (text : List ℕ) (l : Lent) (budget : ℕ)
      → Given (λ (r, s). NotOut r) (load_and_preview text l budget).0
  pub row_assembly : (text : List ℕ) (l : AssemblyLent) (budget : ℕ)
      → Given NotOut (assemble_and_run text l budget).0
