-- `run_paired` (Paired: AnyMemory, PairedRefusals, PassingPairs, PairingsPass, PairedFitted): what its tests say, one
-- after the other; where they are passed, it is the row of three calls (Rows); what `compile` wrote passes them, and is
-- then run as the four calls run it (Rows, Memories).
use mathlib.Core.Path.{◌≡◌, refl, sym, ◌∙◌, ap, ap₂}
use Prim.Native.Nat.{ℕ, ◌+◌, ◌*◌, ◌%◌, ◌≤◌}
use native.Mathlib.Decide.{ℕ_discrete}
use native.Mathlib.Omega.{arith}
use mathlib.Core.Bool.{true}
use mathlib.Core.List.{List}
use lib.Dec.{leb}
use lib.IntN.{ℤ, pos}
use lib.ListN.{length, take, length-replicate}
use lib.Seq.{take_all}
use borrow.Author.Tests.{eq-eqb, eqb-true, ne_eqb, le-leb, leb-true}
use Rattle.base.specs.Answers.{Answer, gives, refused, and_then}
use Rattle.base.specs.Ends.{Result, Ran, report}
use Rattle.base.specs.Rows.{answered}
use Rattle.base.proofs.Answers.{gives_one}
use Rattle.base.proofs.Rows.{ends_there, goes_on}
use Rattle.base.proofs.Settled.{not_both, unless_passed, needed, both}
use Rattle.text.specs.Syntax.{Command}
use Rattle.text.specs.Encoding.{Within}
use Rattle.text.specs.Sizes.{records, depth, cells, sized, sizes}
use Rattle.text.specs.declared.Sizes.{Sizes}
use Rattle.text.proofs.Accepted.{accepted}
use Rattle.text.proofs.Limits.{short, shallow}
use Rattle.source.specs.Rules.{Store}
use Rattle.source.specs.Calls.{sums, run_source}
use Rattle.source.proofs.Calls.{source_runs, source_declines}
use Rattle.record.specs.Records.{MachineCode}
use Rattle.record.specs.Bytes.{machine_kind, whole_records, record_count, records_of}
use Rattle.record.proofs.Tested.{records_length}
use Rattle.record.proofs.Written.{whole_written, written}
use Rattle.machine.specs.Calls.{machine_tests, machine_run, run_machine, without_state}
use Rattle.machine.proofs.Calls.{machine_runs}
use Rattle.compile.specs.Compilation.{ccomp}
use Rattle.compile.specs.Table.{to_m_prog, table, named_in, agrees}
use Rattle.compile.specs.Calls.{machine_bytes}
use Rattle.compile.proofs.Calls.{machine_count, Wrote, wrote}
use Rattle.compile.proofs.Codes.{codes}
use Rattle.compile.proofs.AgreeingPairs.{agreeing_pairs}
use Rattle.compile.proofs.Pairs.{pairs}
use Rattle.compile.proofs.Tables.{tables, named_variables}
use Rattle.fitting.specs.Loading.{loaded, read_back}
use Rattle.fitting.specs.Calls.{table_tests}
use Rattle.fitting.specs.Rows.{Lent, buffers, load_run_read}
use Rattle.fitting.specs.Paired.{paired_tests, run_paired, AnyMemory, PairedRefusals, PassingPairs, ByCompiler}
use Rattle.fitting.specs.Paired.{PairingsPass, PairedFitted}
use Rattle.fitting.proofs.Calls.{tabled, names_own, names_few}
use Rattle.fitting.proofs.Loading.{length_loaded}
use Rattle.fitting.proofs.Memories.{translated}
use Rattle.fitting.proofs.Rows.{three_calls, table_passes}

-- ---- The tests

module _ (code t : List ℕ) (store : Store) (D : ℕ) where
  abbrev n : ℕ
  n = named_in t

  -- What was found where they give the sizes z
  pub record PairFound (z : Sizes) : Type 0 where
    pub records : MachineCode
    pub sizes_are : z ≡ sized (length records) D n
    pub whole : whole_records code ≡ true
    pub names : table_tests t store ≡ gives n
    pub given : records_of (machine_kind n) code ≡ gives records
    pub agree : agrees records n ≡ true
    pub deep : D ≤ 64

  pub pair_found : {z : Sizes} → paired_tests code t store D ≡ gives z → PairFound z
  unfolding paired_tests
  pair_found e =
      let w = unless_passed (whole_records code) 9 0 _ e in
      let x = needed (table_tests t store) _ w.1 in
      let own = names_own t store x.given in
      let r = needed (records_of (machine_kind x.value) code) _ x.then_gives in
      let a = unless_passed (agrees r.value x.value) 14 0 _ r.then_gives in
      let d = unless_passed (leb D 64) 11 0 _ a.1 in
      record {
        records = r.value;
        sizes_are = sym (gives_one _ _ d.1) ∙ ap (sized (length r.value) D) own;
        whole = w.0;
        names = x.given ∙ ap gives own;
        given = ap (λ n. records_of (machine_kind n) code) (sym own) ∙ r.given;
        agree = ap (agrees r.value) (sym own) ∙ a.0;
        deep = leb-true D 64 d.0;
      }

  module _ {z : Sizes} (f : PairFound z) where
    abbrev P : MachineCode
    P = f.records

    -- all of the code is records
    all_code : take (5 * length P) code ≡ code
    all_code =
        let count = records_length (machine_kind n) code 0 (record_count code) f.given in
        let five = eqb-true (length code % 5) 0 (both _ _ f.whole).0 in
        take_all (5 * length P) code (omega arith)

    -- on the loaded memory, `run_machine` finds the same records
    pub finds_records : machine_tests code (loaded t D n store) D n ≡ gives P
    unfolding machine_tests and_then
    finds_records = simp (
      f.whole,
      f.given,
      le-leb D 64 f.deep,
      le-leb n 64 (names_few t store f.names),
      eq-eqb (length (loaded t D n store)) (D + 1 + n) (length_loaded t D n store),
    )

    finds_all : machine_tests (take (5 * length P) code) (loaded t D n store) D n ≡ gives P
    finds_all = ap (λ code. machine_tests code (loaded t D n store) D n) all_code ∙ finds_records

    -- the tests, the other way
    pair_passes : paired_tests code t store D ≡ gives z
    unfolding paired_tests and_then
    pair_passes = rw (f.whole, f.names, f.given, f.agree, le-leb D 64 f.deep) (ap gives (sym f.sizes_are))

-- ---- The call

module _ (code t : List ℕ) (store : Store) (D budget : ℕ) where
  -- what is told of the row
  abbrev of_row : Answer Ran × Lent → Answer Ran × Store
  of_row r = (r.0, r.1.store)

  pub pair_declines : {number place : ℕ} → paired_tests code t store D ≡ refused number place
      → (refused number place, store) ≡ run_paired code t store D budget
  unfolding run_paired
  pair_declines e = ap of_row (ends_there (λ (l : Lent). l) (λ z. load_run_read z budget) refl e)

  module _ {z : Sizes} (f : PairFound code t store D z) where
    three : (memory : List ℤ) → length memory ≡ D + 1 + named_in t
        → let ran = machine_run f.records (loaded t D (named_in t) store) D budget in
        (gives (report budget ran), buffers code t ran.leaves.memory (read_back t D store ran.leaves.memory))
        ≡ answered (load_run_read z budget (buffers code t memory store))
    three memory long =
        three_calls code t memory store (length f.records) D (named_in t) budget f.names
        (finds_all code t store D f) long
        ∙ ap (λ z. answered (load_run_read z budget (buffers code t memory store))) (sym f.sizes_are)

    pub pair_runs :
        let ran = machine_run f.records (loaded t D (named_in t) store) D budget in
        (gives (report budget ran), read_back t D store ran.leaves.memory) ≡ run_paired code t store D budget
    unfolding run_paired
    pair_runs =
        ap of_row (goes_on (λ (l : Lent). l) (λ z. load_run_read z budget) refl (pair_passes code t store D f)
        (three _ (length-replicate (D + 1 + named_in t) (pos 0))))

    -- from what `run_machine` gives and leaves
    pub pair_runs_by : {a : Answer Ran} {m : List ℤ}
        → (a, m) ≡ without_state (run_machine code (loaded t D (named_in t) store) D (named_in t) budget)
        → (a, read_back t D store m) ≡ run_paired code t store D budget
    pair_runs_by e =
        ap (λ (r : Answer Ran × List ℤ). (r.0, read_back t D store r.1))
        (e ∙ sym (machine_runs code (loaded t D (named_in t) store) D (named_in t) budget
        (finds_records code t store D f)))
        ∙ pair_runs

-- ---- What is claimed

pub any_memory : AnyMemory
any_memory code t store D z e budget memory long =
    let f = pair_found code t store D e in
    let cells = ap (λ (z : Sizes). z.cells) f.sizes_are in
    record {
      tell = _;
      leave = _;
      in_a_row = sym (three code t store D budget f memory (long ∙ ap (λ k. D + 1 + k) cells));
      in_one_call = sym (pair_runs code t store D budget f);
    }

-- What the call gives and leaves, by what its tests answer
refusals : (code t : List ℕ) (store s : Store) (D budget number place : ℕ) (x : Answer Sizes)
    → paired_tests code t store D ≡ x → run_paired code t store D budget ≡ (refused number place, s)
    → (x ≡ refused number place) × (s ≡ store)
refusals code t store s D budget number place (gives z) e f =
    let runs = pair_runs code t store D budget (pair_found code t store D e) in
    not_both (sym (ap (λ (r : Answer Ran × Store). r.0) (runs ∙ f)))
refusals code t store s D budget number place (refused k p) e f =
    let both_are = pair_declines code t store D budget e ∙ f in
    let answers : ◌≡◌ {A = Answer Ran} (refused k p) (refused number place) = ap
    (λ (r : Answer Ran × Store). r.0) both_are in
    (cc, sym (ap (λ (r : Answer Ran × Store). r.1) both_are))

pub paired_refusals : PairedRefusals
paired_refusals code t store s D budget number place = (
  refusals code t store s D budget number place (paired_tests code t store D) refl,
  λ (e, same). sym (pair_declines code t store D budget e) ∙ (λ i. (refused number place, sym same i)),
)

pub passing_pairs : PassingPairs
passing_pairs code t store D z e =
    let f = pair_found code t store D e in
    let x = tabled t store f.names in
    let cells = ap (λ (z : Sizes). z.cells) f.sizes_are in (
      f.records,
      ap (λ n. records_of (machine_kind n) code) cells ∙ f.given,
      (agreeing_pairs t x.bytes x.passes f.records).0 f.agree,
    )

-- A command's machine code, table and D
module _ (c : Command) (w : Within c) where
  few_records : records c ≤ 4096
  few_records = omega (arith, short c, w.short)

  abbrev compiled_pair : (store : Store) → length store ≡ 64
      → PairFound (machine_bytes c) (table (ccomp c)) store (depth c) (sizes c)
  compiled_pair store long =
      let P = to_m_prog (ccomp c) in
      let count = machine_count c in
      let named = (named_variables c w.valid).in_table in
      record {
        records = P;
        sizes_are = ap₂ (λ k n. sized k (depth c) n) (sym count) (sym named);
        whole = whole_written (machine_kind (cells c)) P (omega (arith, few_records));
        names = table_passes c w.valid store long ∙ ap gives (sym named);
        given = ap (λ n. records_of (machine_kind n) (machine_bytes c)) named
            ∙ written.in_machine (cells c) P (codes c w.valid few_records).in_machine;
        agree = ap (agrees P) named ∙ pairs c w.valid;
        deep = omega (arith, shallow c w.nested);
      }

  -- and with a store of another length
  not_64 : (store : Store) → (length store ≡ 64 → ⊥)
      → paired_tests (machine_bytes c) (table (ccomp c)) store (depth c) ≡ refused 8 0
  unfolding paired_tests table_tests and_then
  not_64 store short = simp (
    whole_written (machine_kind (cells c)) (to_m_prog (ccomp c)) (omega (arith, machine_count c, few_records)),
    eq-eqb (length (table (ccomp c))) 64 (tables c w.valid).long,
    ne_eqb (length store) 64 short,
  )

-- What `compile` wrote is a command's.
module _ {text code t : List ℕ} {D : ℕ} (pair : ByCompiler text code t D) where
  by_command : Wrote text pair.written pair.sizes
  by_command = wrote text pair.lent pair.written pair.sizes pair.compiles

  abbrev c : Command
  c = by_command.command

  within : Within c
  within = ((accepted text pair.bytes c).0 by_command.reads).0

  module _ {A : Type 0} (of : List ℕ → List ℕ → ℕ → A) where
    of_command : of code t D ≡ of (machine_bytes c) (table (ccomp c)) (depth c)
    of_command =
        let code_is = pair.code_is ∙ by_command.code_is in
        let table_is = pair.table_is ∙ by_command.table_is in
        let depth_is = pair.depth_is ∙ ap (λ (z : Sizes). z.depth) by_command.sizes_are in
        λ i. of (code_is i) (table_is i) (depth_is i)

pub pairings_pass : PairingsPass
pairings_pass text code t D pair store long =
    let w = by_command pair in
    let c = w.command in
    of_command pair (λ code t D. paired_tests code t store D)
    ∙ pair_passes (machine_bytes c) (table (ccomp c)) store (depth c) (compiled_pair c (within pair) store long)
    ∙ ap gives (sym w.sizes_are)

pub paired_fitted : PairedFitted
paired_fitted text code t D pair store budget =
    of_command pair (λ code t D. run_paired code t store D budget) ∙ by (ℕ_discrete (length store) 64)
  where
    c : Command
    c = (by_command pair).command

    by : Dec (length store ≡ 64)
        → run_paired (machine_bytes c) (table (ccomp c)) store (depth c) budget ≡ run_source text store budget
    by (yes long) =
        let P = to_m_prog (ccomp c) in
        let t = table (ccomp c) in
        let D = depth c in
        let valid = (within pair).valid in
        sym (pair_runs (machine_bytes c) t store D budget (compiled_pair c (within pair) store long))
        ∙ ap (λ n. let ran = machine_run P (loaded t D n store) D budget in
        (gives (report budget ran), read_back t D store ran.leaves.memory)) (named_variables c valid).in_table
        ∙ ap (λ (r : Result Store). (gives (report budget r), r.leaves)) (translated sums c valid store long budget)
        ∙ sym (source_runs text c store budget (by_command pair).reads long)
    by (no short) =
        sym (pair_declines (machine_bytes c) (table (ccomp c)) store (depth c) budget
        (not_64 c (within pair) store short))
        ∙ sym (source_declines text c store budget (by_command pair).reads short)
