-- Demand 3 (Demand3: Demand3, Fitted, AssemblyFitted, OneMark, RowsFitted): the four calls come to the machine's run
-- (Rows), which has the source rules' result (Memories); the customer's wording follows from the equality.
use mathlib.Core.Path.{◌≡◌, refl, sym, ◌∙◌, ap, subst}
use mathlib.Core.Logic.{◌⊎◌, inl, inr, ◌↔◌}
use Prim.Native.Nat.{ℕ, ◌-◌, ◌≤◌}
use native.Mathlib.Omega.{arith}
use mathlib.Core.List.{List}
use lib.IntN.{ℤ}
use lib.ListN.{length}
use borrow.Author.Tests.{eq-eqb, le-leb}
use Rattle.base.specs.Acts.{ok, ended}
use Rattle.base.specs.Answers.{Answer, gives, and_then, settle}
use Rattle.base.specs.Ends.{Fault, End, fault, Result, Ran, ran, report}
use Rattle.base.proofs.Answers.{gives_one}
use Rattle.text.specs.Syntax.{Command}
use Rattle.text.specs.Reading.{read_text}
use Rattle.text.specs.Encoding.{Bytes, Within}
use Rattle.text.specs.Sizes.{depth, cells}
use Rattle.text.proofs.Accepted.{accepted}
use Rattle.text.proofs.Limits.{short, shallow}
use Rattle.source.specs.Rules.{Early, Store, Outcomes, start, exec, end_of, result_of, run_rules}
use Rattle.source.specs.Calls.{sums, run_source}
use Rattle.source.proofs.Calls.{source_runs}
use Rattle.record.specs.Bytes.{assembly_kind, code_bytes}
use Rattle.record.proofs.Written.{whole_written, written}
use Rattle.machine.specs.Machine.{Machine, fresh, run}
use Rattle.machine.specs.Memories.{Assembly, assembly, machine_cells}
use Rattle.machine.specs.Calls.{assembly_tests, assembly_run, run_assembly}
use Rattle.machine.proofs.Inside.{fresh_inside}
use Rattle.compile.specs.Compilation.{ccomp}
use Rattle.compile.specs.Table.{to_m_prog, table}
use Rattle.compile.specs.Calls.{Compiled}
use Rattle.compile.proofs.Sizes.{record_count}
use Rattle.compile.proofs.Codes.{codes}
use Rattle.fitting.specs.Loading.{loaded}
use Rattle.fitting.specs.Rows.{four_calls, Lent}
use Rattle.fitting.specs.Simulation.{seen}
use Rattle.fitting.specs.Demand3.{Ready, MachineEnds, RulesEnd, Demand3, Fitted, AssemblyFitted}
use Rattle.fitting.specs.Demand3.{RowsFitted, OneMark}
use Rattle.fitting.proofs.Memories.{assembled, translated}
use Rattle.fitting.proofs.NeverOut.{rules_never_out}
use Rattle.fitting.proofs.Counts.{ticked}
use Rattle.fitting.proofs.Rows.{same_length, in_a_row, whole_row}

-- ---- The equality

module _ (text : List ℕ) (bytes : Bytes text) (c : Command) (read : read_text text ≡ gives c) (lent : Compiled)
    (memory : List ℤ) (store : Store) (ready : Ready c lent memory store) (budget : ℕ) where
  abbrev rules : Result Store
  rules = run_rules sums c budget store

  within : Within c
  within = ((accepted text bytes c).0 read).0

  machine_same : four_calls text lent memory store budget ≡ gives (report budget rules, rules.leaves)
  machine_same =
      in_a_row text c read within lent memory store ready budget
      ∙ ap (λ (r : Result Store). gives (report budget r, r.leaves))
      (translated sums c within.valid store ready.store_cells budget)

  rules_same : run_source text store budget ≡ (gives (report budget rules), rules.leaves)
  rules_same = source_runs text c store budget read ready.store_cells

  -- the machine's mark is D at most, and so the rules'
  mark_low : rules.mark ≤ depth c
  mark_low =
      subst (λ (r : Result Store). r.mark ≤ depth c)
      (translated sums c within.valid store ready.store_cells budget)
      (fresh_inside sums (depth c) (machine_cells (depth c)) (to_m_prog (ccomp c)) budget
      (loaded (table (ccomp c)) (depth c) (cells c) store)).marked

pub fitted : Fitted
fitted text bytes c read lent memory store ready budget =
    let r = run_rules sums c budget store in (
      report budget r,
      r.leaves,
      machine_same text bytes c read lent memory store ready budget,
      rules_same text bytes c read lent memory store ready budget,
    )

-- ---- In the customer's words

-- the two sides tell the same, once both are known
alike : (text : List ℕ) (lent : Compiled) (memory : List ℤ) (store : Store) (budget : ℕ) (x : Ran) (u : Store)
    → four_calls text lent memory store budget ≡ gives (x, u) → run_source text store budget ≡ (gives x, u)
    → (e : End) (k μ : ℕ) (t : Store)
    → MachineEnds text lent memory store budget e k μ t ↔ RulesEnd text store budget e k μ t
alike text lent memory store budget x u m r e k μ t = (to, back)
  where
    to : MachineEnds text lent memory store budget e k μ t → RulesEnd text store budget e k μ t
    to d = r ∙ ap (λ (x : Ran × Store). (gives x.0, x.1)) (gives_one (x, u) (ran e k μ, t) (sym m ∙ d))

    back : RulesEnd text store budget e k μ t → MachineEnds text lent memory store budget e k μ t
    back d =
        let same : ◌≡◌ {A = Answer Ran × Store} (gives x, u) (gives (ran e k μ), t) = sym r ∙ d in
        let first : x ≡ ran e k μ = gives_one x (ran e k μ) (ap (λ (x : Answer Ran × Store). x.0) same) in
        let second : u ≡ t = ap (λ (x : Answer Ran × Store). x.1) same in
        m ∙ (λ i. gives (first i, second i))

-- the two ends of a run of the source rules, by its outcome
ends : (text : List ℕ) (lent : Compiled) (memory : List ℤ) (store : Store) (budget : ℕ) (x : Outcomes (Unit {0}))
    → let r = result_of x in four_calls text lent memory store budget ≡ gives (report budget r, r.leaves)
    → run_source text store budget ≡ (gives (report budget r), r.leaves)
    → (r.end ≡ fault Fault.out_of_range → ⊥) → (r.end ≡ End.spent → r.left ≡ 0)
    → ((k : ℕ) × (μ : ℕ) × (t : Store) × (k ≤ budget) × MachineEnds text lent memory store budget End.done k μ t)
    ⊎ ((μ : ℕ) × (t : Store) × MachineEnds text lent memory store budget End.spent budget μ t
    × RulesEnd text store budget End.spent budget μ t)
unfolding result_of end_of
ends text lent memory store budget (ok a s) m r x z = inl (budget - s.left, s.mark, s.store, omega arith, m)
ends text lent memory store budget (ended (Early.out_of_range, s)) m r x z = absurd (x refl)
ends text lent memory store budget (ended (Early.spent, s)) m r x z =
    let whole : budget - s.left ≡ budget = omega (arith, z refl) in
    inr (
      s.mark,
      s.store,
      m ∙ ap (λ k. gives (ran End.spent k s.mark, s.store)) whole,
      r ∙ ap (λ k. (gives (ran End.spent k s.mark), s.store)) whole,
    )

pub demand3 : Demand3
demand3 text bytes c read lent memory store ready budget =
    let r = run_rules sums c budget store in
    let m = machine_same text bytes c read lent memory store ready budget in
    let s = rules_same text bytes c read lent memory store ready budget in
    let D = depth c in
    record {
      done_alike = alike text lent memory store budget (report budget r) r.leaves m s End.done;
      done_or_spent = ends text lent memory store budget (exec sums c (start budget store)) m s
          (rules_never_out c budget store) (ticked c budget store).spent_all;
      stack = λ steps.
          let x = fresh_inside sums D (machine_cells D) (to_m_prog (ccomp c)) steps
          (loaded (table (ccomp c)) D (cells c) store) in
          omega (arith, x.held, x.marked);
      mark_within = λ e k μ t d.
          subst (λ (x : Ran × Store). x.0.mark ≤ D)
          (gives_one (report budget r, r.leaves) (ran e k μ, t) (sym m ∙ d))
          (mark_low text bytes c read lent memory store ready budget);
    }

-- ---- Every lent buffer

pub rows_fitted : RowsFitted
rows_fitted text bytes c read l ready budget =
    let lent : Compiled = record { code = l.code; table = l.table } in
    let w : Within c = ((accepted text bytes c).0 read).0 in
    let row = whole_row text c read w lent l.memory l.store ready budget in
    let same = translated sums c w.valid l.store ready.store_cells budget in
    record {
      same_run =
          source_runs text c l.store budget read ready.store_cells
          ∙ ap (λ (r : Result Store). (gives (report budget r), r.leaves)) (sym same)
          ∙ ap (λ (x : Answer Ran × Lent). (x.0, x.1.store)) (sym row);
      same_code = ap (λ (x : Answer Ran × Lent). x.1.code) row;
      same_table = ap (λ (x : Answer Ran × Lent). x.1.table) row;
      same_length =
          ap (λ (x : Answer Ran × Lent). length x.1.memory) row
          ∙ same_length text c read w lent l.memory l.store ready budget ∙ sym ready.memory_cells;
    }

-- ---- Assembly

pub assembly_fitted : AssemblyFitted
unfolding run_assembly assembly_tests settle and_then
assembly_fitted text bytes c read m deep long budget = rules ∙ sym (ap told called)
  where
    w : Within c
    w = ((accepted text bytes c).0 read).0

    few_records : length (ccomp c) ≤ 4096
    few_records = omega (arith, record_count c, short c, w.short)

    s : Result (Machine Assembly)
    s = assembly_run (ccomp c) m budget

    same : seen (λ m. m.store) s ≡ run_rules sums c budget m.store
    same =
        ap (λ D. seen (λ m. m.store) (run sums D assembly (ccomp c) budget 0 (fresh m))) deep
        ∙ assembled sums c budget m deep

    rules : run_source text m.store budget ≡ (gives (report budget s), s.leaves.memory.store)
    rules =
        source_runs text c m.store budget read long
        ∙ ap (λ (r : Result Store). (gives (report budget r), r.leaves)) (sym same)

    called : run_assembly (code_bytes assembly_kind (ccomp c)) m budget
        ≡ (gives (report budget s), s.leaves.memory)
    called = simp (
      whole_written assembly_kind (ccomp c) few_records,
      eq-eqb (length m.store) 64 long,
      written.in_assembly (ccomp c) (codes c w.valid (omega (arith, record_count c, few_records))).in_assembly,
      le-leb (length m.stack) 64 (omega (arith, shallow c w.nested)),
    )

    told : Answer Ran × Assembly → Answer Ran × Store
    told x = (x.0, x.1.store)

-- ---- All three

pub one_mark : OneMark
one_mark text bytes c read lent memory m ready deep budget =
    let r = run_rules sums c budget m.store in
    let s = rules_same text bytes c read lent memory m.store ready budget in
    let same = sym (assembly_fitted text bytes c read m deep ready.store_cells budget) ∙ s in
    record {
      tell = report budget r;
      leave = r.leaves;
      by_source = s;
      by_assembly = ap (λ x. x.0) same;
      assembly_leaves = ap (λ x. x.1) same;
      by_machine = machine_same text bytes c read lent memory m.store ready budget;
      never_above = mark_low text bytes c read lent memory m.store ready budget;
    }
