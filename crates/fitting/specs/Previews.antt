-- Previews (document 02, W3): they equal "what the run would have left on a copy", and demand 3 holds for them. The
-- proof of the same spelling stands in proofs/.
use Rattle.std.specs.Prelude.{◌≡◌, ◌↔◌, ℕ, List, ℤ}
use Rattle.base.specs.Answers.{gives}
use Rattle.base.specs.Ends.{Ran}
use Rattle.text.specs.Syntax.{Command}
use Rattle.text.specs.Reading.{read_text}
use Rattle.text.specs.Encoding.{Bytes}
use Rattle.text.specs.Sizes.{depth, cells}
use Rattle.source.specs.Rules.{Store}
use Rattle.source.specs.Calls.{run_source, preview_source}
use Rattle.machine.specs.Calls.{run_machine, without_state}
use Rattle.compile.specs.Compilation.{ccomp}
use Rattle.compile.specs.Table.{table, named_in}
use Rattle.fitting.specs.Loading.{loaded}
use Rattle.fitting.specs.Calls.{read_back_call, preview_machine}
use Rattle.fitting.specs.Rows.{Lent, load_and_preview}
use Rattle.fitting.specs.Demand3.{Ready}

-- A source preview gives a run and a store exactly when `run_source` gives that run and leaves that store.
abbrev pub SourcePreviewed : Type 0
SourcePreviewed = (text : List ℕ) (store : Store) (budget : ℕ) (ran : Ran) (s : Store)
    → (preview_source text store budget ≡ (gives ran, s)) ↔ (run_source text store budget ≡ (gives ran, s))

-- A machine's preview gives a run and a store exactly when `run_machine`, with the table's n, gives that run and leaves
-- a memory from which `read_back`, over the store, gives n and leaves that store.
abbrev pub MachinePreviewed : Type 0
MachinePreviewed = (code : List ℕ) (memory : List ℤ) (D : ℕ) (t : List ℕ) (store : Store) (budget : ℕ)
    (ran : Ran) (s : Store)
    → (preview_machine code memory D t store budget ≡ (gives ran, s))
    ↔ ((m : List ℤ) × (without_state (run_machine code memory D (named_in t) budget) ≡ (gives ran, m))
    × (read_back_call t m D store ≡ (gives (named_in t), s)))

-- The two previews of one text, the machine's after compiling and loading, from the same store under the same budget:
-- they tell the same end, count and mark and give the same store, which are those of the run itself; the lent store
-- stays, and the memory is as loading left it.
pub record PreviewsAlike (text : List ℕ) (c : Command) (l : Lent) (budget : ℕ) : Type 0 where
  pub tell : Ran
  pub leave : Store
  pub by_source : preview_source text l.store budget ≡ (gives tell, leave)
  pub by_machine : (load_and_preview text l budget).0 ≡ gives (tell, leave)
  pub by_run : run_source text l.store budget ≡ (gives tell, leave)
  pub store_stays : (load_and_preview text l budget).1.store ≡ l.store
  pub memory_stays :
      (load_and_preview text l budget).1.memory ≡ loaded (table (ccomp c)) (depth c) (cells c) l.store

-- Demand 3 for previews.
abbrev pub PreviewsFitted : Type 0
PreviewsFitted = (text : List ℕ) → Bytes text → (c : Command) → read_text text ≡ gives c
    → (l : Lent) → Ready c (record { code = l.code; table = l.table }) l.memory l.store
    → (budget : ℕ) → PreviewsAlike text c l budget
