-- Simulation: on any lawful memory and under any rule for sums, the records of a command do what the source rules say.
-- At every budget the end, the ticks left, the mark and the store are the same. Assembly and the pod machine are two
-- such memories. The proof of the same spelling stands in proofs/.
use Rattle.std.specs.Prelude.{◌≡◌, ℕ, ◌≤◌, ◌<◌, ℤ, pos, length, get_or, set}
use Rattle.std.proofs.Math.Option.{some}
use Rattle.std.proofs.Math.ListN.{get_elem?}
use Rattle.base.specs.Ends.{Result, result}
use Rattle.word.specs.Sums.{SumRule, stopping}
use Rattle.text.specs.Syntax.{Command}
use Rattle.text.specs.Encoding.{Valid}
use Rattle.text.specs.Sizes.{depth, cells}
use Rattle.source.specs.Rules.{Store, run_rules}
use Rattle.record.specs.Records.{Record, AssemblyCode, named}
use Rattle.record.specs.declared.Variable.{Variable}
use Rattle.machine.specs.Machine.{Memory, Machine, fresh, run}
use Rattle.machine.specs.Memories.{Assembly, assembly, machine_cells}
use Rattle.compile.specs.Compilation.{ccomp}
use Rattle.compile.specs.Table.{to_m_prog, table}
use Rattle.fitting.specs.Loading.{loaded, read_back}

-- A machine's result as a result with the store that `view` sees in its memory
abbrev pub seen : {M : Type 0} → (M → Store) → Result (Machine M) → Result Store
seen view r = result r.end r.left r.mark (view r.leaves.memory)

-- What a memory with D stack slots owes. By `view` it stands for a store, of which it keeps the `Named` variables
pub record Laws {M : Type 0} (D : ℕ) (o : Memory M Variable) (view : M → Store) (Good : M → Type 0)
    (Named : Variable → Type 0) : Type 0 where
  pub load_view : (m : M) (v : Variable) → Good m → Named v → o.load m v ≡ get_or (view m) v.0 (pos 0)
  pub save_view : (m : M) (v : Variable) (z : ℤ) → Good m → Named v → view (o.save m v z) ≡ set (view m) v.0 z
  pub save_good : (m : M) (v : Variable) (z : ℤ) → Good m → Named v → Good (o.save m v z)
  pub poke_view : (m : M) (i : ℕ) (z : ℤ) → Good m → i < D → view (o.poke m i z) ≡ view m
  pub poke_good : (m : M) (i : ℕ) (z : ℤ) → Good m → i < D → Good (o.poke m i z)
  pub peek_poke : (m : M) (i : ℕ) (z : ℤ) → Good m → i < D → o.peek (o.poke m i z) i ≡ z
  pub peek_below : (m : M) (i j : ℕ) (z : ℤ) → Good m → i < D → j < i → o.peek (o.poke m i z) j ≡ o.peek m j

-- Every variable that a record of P names is `Named`
pub record Names (P : AssemblyCode) (Named : Variable → Type 0) : Type 0 where
  pub each : (p : ℕ) (v : Variable) (r : Record Variable) → get_elem? P p ≡ some r → named r ≡ some v → Named v

-- On any lawful memory, the records of a command, run from a fresh machine, have the source rules' result.
abbrev pub Simulated : SumRule → Type 1
Simulated sum = (M : Type 0) (D : ℕ) (o : Memory M Variable) (view : M → Store) (Good : M → Type 0)
    (Named : Variable → Type 0)
    → Laws D o view Good Named → (c : Command) → Names (ccomp c) Named → depth c ≤ D
    → (budget : ℕ) (m : M) → Good m
    → seen view (run sum D o (ccomp c) budget 0 (fresh m)) ≡ run_rules sum c budget (view m)

-- Assembly, on a stack of D slots and a store, has the source rules' result.
abbrev pub Assembled : SumRule → Type 0
Assembled sum = (c : Command) (budget : ℕ) (m : Assembly) → length m.stack ≡ depth c
    → seen (λ m. m.store) (run sum (depth c) assembly (ccomp c) budget 0 (fresh m))
    ≡ run_rules sum c budget m.store

-- The store loaded, the machine code run from a fresh machine, the store read back
abbrev pub on_machine : SumRule → Command → ℕ → Store → Result Store
on_machine sum c budget s =
    let t = table (ccomp c) in
    let D = depth c in
    seen (read_back t D s)
    (run sum D (machine_cells D) (to_m_prog (ccomp c)) budget 0 (fresh (loaded t D (cells c) s)))

-- Machine code, loaded and read back, has the source rules' result.
abbrev pub Translated : SumRule → Type 0
Translated sum = (c : Command) → Valid c → (s : Store) → length s ≡ 64 → (budget : ℕ)
    → on_machine sum c budget s ≡ run_rules sum c budget s

-- So it is by document 01's stopping rule, which no call names any more (document 02, W9, speaks of runs by it).
abbrev pub TranslatedStopping : Type 0
TranslatedStopping = Translated stopping
