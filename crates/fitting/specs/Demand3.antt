-- Demand 3. For every accepted text, every starting store and every budget, the four calls in a row give the end, the
-- count, the mark and the store that the source rules give under that budget; none of the four declines; the end is
-- done or spent, never short, full or astray; and neither the stack nor the mark passes D. The source rules are read as
-- document 02's W8 has them, "Compiled profiles are judged against the rules so read"; under document 01's stopping
-- rule it follows in a line (Simulation: TranslatedStopping). The proof of the same spelling stands in proofs/.
use Rattle.std.specs.Prelude.{◌≡◌, ◌⊎◌, ◌↔◌, ℕ, ◌+◌, ◌*◌, ◌≤◌, List, ℤ, length}
use Rattle.base.specs.Answers.{gives}
use Rattle.base.specs.Ends.{End, Ran, ran}
use Rattle.text.specs.Syntax.{Command}
use Rattle.text.specs.Reading.{read_text}
use Rattle.text.specs.Encoding.{Bytes}
use Rattle.text.specs.Sizes.{records, depth, cells}
use Rattle.source.specs.Rules.{Store}
use Rattle.source.specs.Calls.{run_source}
use Rattle.machine.specs.Memories.{Assembly}
use Rattle.machine.specs.Calls.{machine_run, run_assembly}
use Rattle.record.specs.Bytes.{assembly_kind, code_bytes, over}
use Rattle.compile.specs.Compilation.{ccomp}
use Rattle.compile.specs.Table.{to_m_prog, table}
use Rattle.compile.specs.Calls.{machine_bytes, Compiled}
use Rattle.fitting.specs.Loading.{loaded}
use Rattle.fitting.specs.Rows.{four_calls, Lent, fit}

-- "Lengths as this paper asks"
pub record Ready (c : Command) (lent : Compiled) (memory : List ℤ) (store : Store) : Type 0 where
  pub output : 5 * records c ≤ length lent.code
  pub table_bytes : length lent.table ≡ 64
  pub memory_cells : length memory ≡ depth c + 1 + cells c
  pub store_cells : length store ≡ 64

-- What the two sides tell: an end e at count k with a mark and the store t
abbrev pub MachineEnds : List ℕ → Compiled → List ℤ → Store → ℕ → End → ℕ → ℕ → Store → Type 0
MachineEnds text lent memory store budget e k mark t =
    four_calls text lent memory store budget ≡ gives (ran e k mark, t)

abbrev pub RulesEnd : List ℕ → Store → ℕ → End → ℕ → ℕ → Store → Type 0
RulesEnd text store budget e k mark t = run_source text store budget ≡ (gives (ran e k mark), t)

-- Demand 3 of one text, its command, the lent buffers, a starting store and a budget
pub record Alike (text : List ℕ) (c : Command) (lent : Compiled) (memory : List ℤ) (store : Store) (budget : ℕ)
    : Type 0 where
  -- "The run is done after k instructions with a store exactly when document 01's source rules, under the same budget,
  -- are done at k ticks with that store"
  pub done_alike : (k mark : ℕ) (t : Store)
      → MachineEnds text lent memory store budget End.done k mark t ↔ RulesEnd text store budget End.done k mark t
  -- "k at most the budget"; "otherwise both are spent, at exactly the budget, with the same store"
  pub done_or_spent :
      ((k : ℕ) × (mark : ℕ) × (t : Store) × (k ≤ budget)
      × MachineEnds text lent memory store budget End.done k mark t)
      ⊎ ((mark : ℕ) × (t : Store) × MachineEnds text lent memory store budget End.spent budget mark t
      × RulesEnd text store budget End.spent budget mark t)
  -- "its stack never passes the depth D worked out from the text": after any number of steps. Any code stays at D or
  -- below, since a push at D would end full (machine/specs/Machine, push); what this code adds is `done_or_spent`: no
  -- run of it ends full, so no push at D is ever tried
  pub stack : (steps : ℕ)
      → (machine_run (to_m_prog (ccomp c)) (loaded (table (ccomp c)) (depth c) (cells c) store) (depth c) steps
      ).leaves.size ≤ depth c
  -- nor is the mark above D, whatever the end
  pub mark_within : (e : End) (k mark : ℕ) (t : Store)
      → MachineEnds text lent memory store budget e k mark t → mark ≤ depth c

-- Demand 3.
abbrev pub Demand3 : Type 0
Demand3 = (text : List ℕ) → Bytes text → (c : Command) → read_text text ≡ gives c
    → (lent : Compiled) (memory : List ℤ) (store : Store) → Ready c lent memory store
    → (budget : ℕ) → Alike text c lent memory store budget

-- The same in one line: the four calls give what the source run gives and leave the store that it leaves.
abbrev pub Fitted : Type 0
Fitted = (text : List ℕ) → Bytes text → (c : Command) → read_text text ≡ gives c
    → (lent : Compiled) (memory : List ℤ) (store : Store) → Ready c lent memory store
    → (budget : ℕ) → (ran : Ran) × (t : Store)
    × (four_calls text lent memory store budget ≡ gives (ran, t)) × (run_source text store budget ≡ (gives ran, t))

-- And of assembly: a text's own assembly, run on a stack of D cells, gives what the source run gives and leaves the
-- store that it leaves.
abbrev pub AssemblyFitted : Type 0
AssemblyFitted = (text : List ℕ) → Bytes text → (c : Command) → read_text text ≡ gives c
    → (m : Assembly) → length m.stack ≡ depth c → length m.store ≡ 64 → (budget : ℕ)
    → let r = run_assembly (code_bytes assembly_kind (ccomp c)) m budget in
    run_source text m.store budget ≡ (r.0, r.1.store)

-- The three executors on one text, from the same store under the same budget: assembly on a stack of D cells, the
-- machine by the four calls. They tell the same end, count and mark and leave the same store, and the mark is D at
-- most.
pub record ThreeAlike (text : List ℕ) (c : Command) (lent : Compiled) (memory : List ℤ) (m : Assembly) (budget : ℕ)
    : Type 0 where
  pub tell : Ran
  pub leave : Store
  pub by_source : run_source text m.store budget ≡ (gives tell, leave)
  pub by_assembly : (run_assembly (code_bytes assembly_kind (ccomp c)) m budget).0 ≡ gives tell
  pub assembly_leaves : (run_assembly (code_bytes assembly_kind (ccomp c)) m budget).1.store ≡ leave
  pub by_machine : four_calls text lent memory m.store budget ≡ gives (tell, leave)
  pub never_above : tell.mark ≤ depth c

-- "For compiled profiles with their own D, from the same store under the same budget, [the mark] agrees among the
-- three, and it is never above D" (document 02, W2).
abbrev pub OneMark : Type 0
OneMark = (text : List ℕ) → Bytes text → (c : Command) → read_text text ≡ gives c
    → (lent : Compiled) (memory : List ℤ) (m : Assembly) → Ready c lent memory m.store
    → length m.stack ≡ depth c → (budget : ℕ) → ThreeAlike text c lent memory m budget

-- Demand 3 with every lent buffer: the four calls in a row give what the source run gives, and leave the store that it
-- leaves, the code and the table that compiling leaves, and a memory of the same length.
pub record RowFitted (text : List ℕ) (c : Command) (l : Lent) (budget : ℕ) : Type 0 where
  pub same_run : run_source text l.store budget ≡ ((fit text l budget).0, (fit text l budget).1.store)
  pub same_code : (fit text l budget).1.code ≡ over (machine_bytes c) l.code
  pub same_table : (fit text l budget).1.table ≡ table (ccomp c)
  pub same_length : length (fit text l budget).1.memory ≡ length l.memory

abbrev pub RowsFitted : Type 0
RowsFitted = (text : List ℕ) → Bytes text → (c : Command) → read_text text ≡ gives c
    → (l : Lent) → Ready c (record { code = l.code; table = l.table }) l.memory l.store
    → (budget : ℕ) → RowFitted text c l budget
