-- Runs in pieces (document 02, W7): several calls in a row, and what is claimed of pausing and going on. The proof of
-- the same spelling stands in proofs/.
use Rattle.std.specs.Prelude.{◌≡◌, ◌↔◌, ℕ, ◌+◌, ◌≤◌, List, [], ◌∷◌, ℤ, length}
use Rattle.base.specs.Answers.{Answer, gives, refused, settle}
use Rattle.base.specs.Ends.{Ran, report}
use Rattle.record.specs.Records.{MachineCode}
use Rattle.machine.specs.Calls.{sums, machine_tests, fresh_state, run_from, machine_run, Told, finished, paused}
use Rattle.machine.specs.Calls.{piece_told, Unfit, state_tests, go_on, run_machine, ran_of, without_state}
use Rattle.machine.specs.declared.State.{State}

-- ---- Several calls in a row

-- "Each gets what the one before left, and nobody else writes meanwhile"; "the list stopping early if an earlier piece
-- ends otherwise" than with a pause
unfoldable pub after_piece : Answer Told × List ℤ → (State → List ℤ → Answer Told × List ℤ)
    → Answer Told × List ℤ
after_piece (gives (paused s), memory) next = next s memory
after_piece (gives (finished r), memory) next = (gives (finished r), memory)
after_piece (refused number place, memory) next = (refused number place, memory)

-- A "list of one or more budgets", a first one and others after it: "the last answer and memory"
unfoldable pub in_pieces : List ℕ → List ℤ → ℕ → ℕ → State → ℕ → List ℕ → Answer Told × List ℤ
in_pieces code memory D n s b [] = go_on code memory D n s b
in_pieces code memory D n s b (b' ∷ bs) =
    after_piece (go_on code memory D n s b) (λ s' memory'. in_pieces code memory' D n s' b' bs)

unfoldable pub total : ℕ → List ℕ → ℕ
total b [] = b
total b (b' ∷ bs) = b + total b' bs

-- ---- What is claimed

-- "For every list of one or more budgets whose total fits 32 bits, from a loaded machine, the last answer and memory
-- are those of one run with the total": whatever the memory holds and whatever the code. (The first piece is
-- `run_machine`, which is `go_on` from a fresh machine.)
abbrev pub Pieces : Type 0
Pieces = (code : List ℕ) (memory : List ℤ) (D n b : ℕ) (bs : List ℕ) → total b bs ≤ 4294967295
    → in_pieces code memory D n fresh_state b bs ≡ run_machine code memory D n (total b bs)

-- So it is from every state, made up ones and refused ones too, where count and total together fit.
abbrev pub PiecesFrom : Type 0
PiecesFrom = (code : List ℕ) (memory : List ℤ) (D n : ℕ) (s : State) (b : ℕ) (bs : List ℕ)
    → s.count + total b bs ≤ 4294967295
    → in_pieces code memory D n s b bs ≡ go_on code memory D n s (total b bs)

-- What goes on over the pause: a call from the state s tells a count and a mark that go on from the state's
pub record Onward (s : State) (D budget : ℕ) (r : Ran) : Type 0 where
  pub counts_on : s.count ≤ r.count
  pub within_budget : r.count ≤ s.count + budget
  pub marks_on : s.mark ≤ r.mark
  pub within_depth : r.mark ≤ D

abbrev pub GoesOn : Type 0
GoesOn = (code : List ℕ) (memory : List ℤ) (D n : ℕ) (s : State) (budget : ℕ) (p : Told) (memory' : List ℤ)
    → go_on code memory D n s budget ≡ (gives p, memory') → Onward s D budget (ran_of p)

-- What a pause hands out: its count is the one at which the budget was spent; and with the memory that was left the
-- state passes the tests under every budget that its count leaves of 4294967295.
pub record HandedOut (code : List ℕ) (D n : ℕ) (s : State) (budget : ℕ) (s' : State) (memory' : List ℤ) : Type 0 where
  pub all_spent : s'.count ≡ s.count + budget
  pub passes : (more : ℕ) → s'.count + more ≤ 4294967295
      → (P : MachineCode) × (state_tests code memory' D n s' more ≡ gives P)

abbrev pub HandsOut : Type 0
HandsOut = (code : List ℕ) (memory : List ℤ) (D n : ℕ) (s : State) (budget : ℕ) (s' : State) (memory' : List ℤ)
    → go_on code memory D n s budget ≡ (gives (paused s'), memory') → HandedOut code D n s budget s' memory'

-- "It refuses with 15, after 11," a state that is unfit in one of the four ways (Calls: Unfit), and no other; else the
-- state is run.
pub record StateRefusals (code : List ℕ) (memory : List ℤ) (D n : ℕ) (s : State) (budget : ℕ) : Type 0 where
  pub after_eleven : (number place : ℕ) → machine_tests code memory D n ≡ refused number place
      → go_on code memory D n s budget ≡ (refused number place, memory)
  pub fifteen : (P : MachineCode) → machine_tests code memory D n ≡ gives P
      → (go_on code memory D n s budget ≡ (refused 15 0, memory)) ↔ Unfit s (length P) D budget
  pub else_runs : (P : MachineCode) → machine_tests code memory D n ≡ gives P → (Unfit s (length P) D budget → ⊥)
      → let r = run_from sums P memory D s budget in
      go_on code memory D n s budget ≡ (gives (piece_told s budget r), r.leaves.memory)

-- ("A budget is an unsigned 32-bit number", document 01)
abbrev pub FifteenAlone : Type 0
FifteenAlone = (code : List ℕ) (memory : List ℤ) (D n : ℕ) (s : State) (budget : ℕ) → budget ≤ 4294967295
    → StateRefusals code memory D n s budget

-- `run_machine` is what document 01 says, under every budget: it declines with 9, 10 and 11 alone, and else tells the
-- end, the count and the mark of the run from a fresh machine and leaves its memory.
abbrev pub FreshRun : Type 0
FreshRun = (code : List ℕ) (memory : List ℤ) (D n budget : ℕ)
    → without_state (run_machine code memory D n budget)
    ≡ settle (machine_tests code memory D n)
    (λ P. report budget (machine_run P memory D budget)) (λ P. (machine_run P memory D budget).leaves.memory) memory
