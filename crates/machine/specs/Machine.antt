-- The stack machine, once for both memories (document 01, "Executors"; document 001, iexec and m-iexec), and the mark
-- of its runs (document 02, W2).
use Rattle.std.specs.Prelude.{ℕ, zero, suc, max, List, ℤ, ltb, length, if◌then◌else◌}
use Rattle.std.proofs.Math.Option.{Option, none, some}
use Rattle.std.proofs.Math.ListN.{get_elem?}
use Rattle.std.specs.Int.Signed.{lt_z}
use Rattle.base.specs.Acts.{Outcome, ok, ended, Act, ◌>>=◌, ◌>>◌}
use Rattle.base.specs.Ends.{Fault, short, full, out_of_range, astray, done, spent, fault, Result, result}
use Rattle.word.specs.Sums.{Sum, fits, out, SumRule}
use Rattle.word.specs.Targets.{Target, target}
use Rattle.std.specs.Prelude.{Some, None}
use Rattle.record.specs.Records.{Record, LOADI, LOAD, ADD, STORE, JMP, JMPLESS, JMPGE}

-- A memory: what a name holds, and stack slot i counted from the bottom
pub record Memory (M Name : Type 0) : Type 0 where
  pub load : M → Name → ℤ
  pub save : M → Name → ℤ → M
  pub peek : M → ℕ → ℤ
  pub poke : M → ℕ → ℤ → M

-- A machine: its position, the number of values on its stack, its memory
pub record Machine (M : Type 0) : Type 0 where
  pub position : ℕ
  pub size : ℕ
  pub memory : M

abbrev pub at : {M : Type 0} → ℕ → ℕ → M → Machine M
at p k m = record { position = p; size = k; memory = m }

-- "A fresh machine has position 0, stack empty"; its count is 0, since the ticks left are the budget
abbrev pub fresh : {M : Type 0} → M → Machine M
fresh m = at 0 0 m

-- ---- One step

-- What a record does on a machine with D stack slots whose code ends at position `last`. "The last four [ends] count
-- the record and change nothing else": a fault hands on no machine
module _ {M Name : Type 0} (sum : ℤ → ℤ → Sum) (D : ℕ) (o : Memory M Name) (last : ℕ) where
  abbrev pub Step : Type 0 → Type 0
  Step A = Act (Machine M) Fault A

  -- "short (fewer operands than ADD 2, STORE 1, the two comparing jumps 2)"
  unfoldable pub taken : ℕ → Step ℤ
  taken zero s = ended short
  taken (suc k) s = ok (o.peek s.memory k) (at s.position k s.memory)

  -- the top of the stack, taken off; "popped cells keep their values"
  unfoldable pub pop : Step ℤ
  pop s = taken s.size s

  -- "full (a push with D values on the stack)"
  unfoldable pub push : ℤ → Step (Unit {0})
  push z s =
      if ltb s.size D
      then ok tt (at s.position (suc s.size) (o.poke s.memory s.size z))
      else ended full

  -- what a name holds; a value kept under a name
  unfoldable pub held : Name → Step ℤ
  held x s = ok (o.load s.memory x) s

  unfoldable pub keep : Name → ℤ → Step (Unit {0})
  keep x z s = ok tt (at s.position s.size (o.save s.memory x z))

  -- "out of range (ADD)": by the stopping rule alone
  unfoldable pub in_range : Sum → Step ℤ
  in_range (fits z) s = ok z s
  in_range out s = ended out_of_range

  -- on to the next record
  unfoldable pub next : Step (Unit {0})
  next s = ok tt (at (suc s.position) s.size s.memory)

  -- "A jump adds its operand to the position of the record after it"; "astray (a taken jump to below 0 or past the end
  -- position)"
  unfoldable pub land : Target → Step (Unit {0})
  land (Some p) s = ok tt (at p s.size s.memory)
  land None s = ended astray

  unfoldable pub jump : ℤ → Step (Unit {0})
  jump i s = land (target s.position i last) s

  -- What each record does. "Comparing jumps pop both: JMPLESS jumps if second < top, JMPGE if second ≥ top"
  unfoldable pub act : Record Name → Step (Unit {0})
  act (LOADI z) = do push z; next
  act (LOAD x) = do z ← held x; push z; next
  act ADD = do y ← pop; x ← pop; z ← in_range (sum x y); push z; next
  act (STORE x) = do z ← pop; keep x z; next
  act (JMP i) = jump i
  act (JMPLESS i) = do y ← pop; x ← pop; if lt_z x y then jump i else next
  act (JMPGE i) = do y ← pop; x ← pop; if lt_z x y then next else jump i

-- After a record: on with the next machine, or the end that a fault brings
unfoldable pub after : {M R : Type 0} → Outcome (Machine M) Fault (Unit {0}) → (Machine M → R) → (Fault → R) → R
after (ok a s) go stop = go s
after (ended e) go stop = stop e

-- ---- A run

-- The rule for sums gets the ticks left after the record's tick (word/specs/Sums says why)
module _ {M Name : Type 0} (sum : SumRule) (D : ℕ) (o : Memory M Name) (code : List (Record Name)) where
  -- the record due, if any
  abbrev pub due : Machine M → Option (Record Name)
  due s = get_elem? code s.position

  -- "the most values that the stack held": the mark before a record, and the values on the stack after it
  abbrev pub raised : ℕ → Machine M → ℕ
  raised mark s = max mark s.size

  -- "Position equal to the number of records is done, before the budget is looked at; then spent; then short, full,
  -- out of range, astray". A record that ends the run raises no mark
  unfoldable pub run_at : ℕ → Option (Record Name) → ℕ → Machine M → Result (Machine M)
  run_at zero none mark s = result done zero mark s
  run_at (suc n) none mark s = result done (suc n) mark s
  run_at zero (some r) mark s = result spent zero mark s
  run_at (suc n) (some r) mark s =
      after (act (sum n) D o (length code) r s)
      (λ s'. run_at n (due s') (raised mark s') s')
      (λ e. result (fault e) n mark s)

  -- A run with n ticks left, from a machine with the mark that it has so far: 0 for a fresh one
  unfoldable pub run : ℕ → ℕ → Machine M → Result (Machine M)
  run n mark s = run_at n (due s) mark s
