-- What is claimed of heights and of the inspection. The proof of the same spelling stands in proofs/.
use Rattle.std.specs.Prelude.{◌≡◌, ℕ, ◌+◌, ◌*◌, ◌≤◌, ◌<◌, Bool, List, ℤ, length, take}
use Rattle.base.specs.Acts.{Outcome, ok, ended}
use Rattle.base.specs.Answers.{Answer, gives}
use Rattle.base.specs.Ends.{Fault, short, full, out_of_range, astray, End, done, spent, fault, Ran}
use Rattle.word.specs.Sums.{Sum, SumRule}
use Rattle.std.specs.Prelude.{Some, None}
use Rattle.text.specs.Syntax.{Command}
use Rattle.text.specs.Encoding.{Bytes}
use Rattle.text.specs.Sizes.{depth}
use Rattle.text.specs.declared.Sizes.{Sizes}
use Rattle.record.specs.Records.{Record, MachineCode}
use Rattle.machine.specs.Machine.{Memory, Machine, at, fresh, act, run}
use Rattle.machine.specs.Calls.{fresh_state, Told, run_machine, without_state}
use Rattle.machine.specs.Pieces.{in_pieces, total}
use Rattle.compile.specs.Compilation.{ccomp}
use Rattle.compile.specs.Table.{to_m_prog}
use Rattle.compile.specs.Calls.{Compiled, compile}
use Rattle.inspection.specs.Heights.{effect, successor, height_after, Reached, Heights, Passing}
use Rattle.inspection.specs.Calls.{inspect_tests, Inspected}

-- ---- What a record takes, puts and leads to is what the machine does with it

module _ {M Name : Type 0} (sum : ℤ → ℤ → Sum) (D : ℕ) (o : Memory M Name) (last : ℕ) where
  -- What comes of the record r at position p, with k values on the stack: a successor, with the height left; astray,
  -- where a successor is; or a sum out of range
  abbrev pub Goes : Record Name → ℕ → ℕ → Outcome (Machine M) Fault (Unit {0}) → Type 0
  Goes r p k (ok a s) =
      (taken : Bool) × (successor last p r taken ≡ Some s.position) × (s.size ≡ height_after r k)
  Goes r p k (ended short) = ⊥
  Goes r p k (ended full) = ⊥
  Goes r p k (ended out_of_range) = Unit {0}
  Goes r p k (ended astray) = (taken : Bool) × (successor last p r taken ≡ None)

  -- What the machine does with it is as `effect` says
  pub record ByEffect (r : Record Name) (p k : ℕ) (m : M) : Type 0 where
    -- it takes more than there is
    pub takes_more : k < (effect r).takes → act sum D o last r (at p k m) ≡ ended short
    -- it pushes past D
    pub past_D : (effect r).takes ≤ k → D < height_after r k → act sum D o last r (at p k m) ≡ ended full
    -- neither
    pub goes : (effect r).takes ≤ k → height_after r k ≤ D → Goes r p k (act sum D o last r (at p k m))

-- So it is with at most D values on the stack, on any memory, under any rule for sums.
abbrev pub Effects : Type 1
Effects = (M Name : Type 0) (sum : ℤ → ℤ → Sum) (D : ℕ) (o : Memory M Name) (last : ℕ) (r : Record Name) (p k : ℕ)
    (m : M) → k ≤ D → ByEffect sum D o last r p k m

-- ---- Code that passes

-- "Never ends short, full or astray"
abbrev pub Safe : End → Type 0
Safe done = Unit {0}
Safe spent = Unit {0}
Safe (fault short) = ⊥
Safe (fault full) = ⊥
Safe (fault out_of_range) = Unit {0}
Safe (fault astray) = ⊥

-- A run of code with heights h
pub record SafeRun {Name : Type 0} (P : List (Record Name)) (h : ℕ → ℕ) (end : End) (mark : ℕ) : Type 0 where
  pub safe : Safe end
  -- its mark is the height of a position that can be reached, and so never above the greatest height
  pub low : (p : ℕ) × Reached P p × (mark ≡ h p)

-- "Code that passes never ends short, full or astray, from a fresh machine with any memory and under any budget": on
-- any memory, of either kind of records, under any rule for sums.
abbrev pub Sound : SumRule → Type 1
Sound sum = (M Name : Type 0) (D : ℕ) (o : Memory M Name) (P : List (Record Name)) (h : ℕ → ℕ) → Heights D P h
    → (budget : ℕ) (m : M) → let r = run sum D o P budget 0 (fresh m) in SafeRun P h r.end r.mark

-- Each position that can be reached has one height, at most D.
abbrev pub OneHeight : Type 1
OneHeight = (Name : Type 0) (D : ℕ) (P : List (Record Name)) (h h' : ℕ → ℕ) → Heights D P h → Heights D P h'
    → (p : ℕ) → Reached P p → (h p ≡ h' p) × (h p ≤ D)

-- `Sound`, of the calls: code that `inspect` passes, and the answer of a call that runs it
pub record RunsSafely (code : List ℕ) (D n : ℕ) (call : Answer Told × List ℤ) : Type 0 where
  pub records : MachineCode
  pub tested : inspect_tests code D n ≡ gives records
  pub h : ℕ → ℕ
  pub heights : Heights D records h
  pub ran : Ran
  pub given : (without_state call).0 ≡ gives ran
  pub safely : SafeRun records h ran.end ran.mark

-- by `run_machine`, on any memory of D + 1 + n cells,
abbrev pub Inspects : Type 0
Inspects = (code : List ℕ) (D n k : ℕ) → Inspected code D n (gives k)
    → (memory : List ℤ) → length memory ≡ D + 1 + n
    → (budget : ℕ) → RunsSafely code D n (run_machine code memory D n budget)

-- and in pieces (document 02, W7).
abbrev pub InspectsInPieces : Type 0
InspectsInPieces = (code : List ℕ) (D n k : ℕ) → Inspected code D n (gives k)
    → (memory : List ℤ) → length memory ≡ D + 1 + n → (b : ℕ) (bs : List ℕ) → total b bs ≤ 4294967295
    → RunsSafely code D n (in_pieces code memory D n fresh_state b bs)

-- ---- Compiled code

-- "Everything our compiler writes passes with its own D and n": the assembly and the machine code of every command,
abbrev pub CommandsPass : Type 0
CommandsPass = (c : Command) → Passing (depth c) (ccomp c) × Passing (depth c) (to_m_prog (ccomp c))

-- and of every text what `compile` wrote, with the record count, D and n that it gave.
abbrev pub TextsPass : Type 0
TextsPass = (text : List ℕ) → Bytes text → (lent left : Compiled) (z : Sizes) → compile text lent ≡ (gives z, left)
    → Inspected (take (5 * z.records) left.code) z.depth z.cells (gives z.records)

-- ---- The call

-- It has one answer.
abbrev pub OneAnswer : Type 0
OneAnswer = (code : List ℕ) (D n : ℕ) (a b : Answer ℕ) → Inspected code D n a → Inspected code D n b → a ≡ b
