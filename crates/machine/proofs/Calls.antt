-- The run calls by the answer of their tests: the answer from what each test finds; what was found, from the number of
-- records given; what the call then gives and leaves, the refusal and its memory untouched or the records' run. 15's
-- test is the request's four conditions (Calls: FitsOrUnfit). The run from a fresh machine is that from its state,
-- which always passes (Pieces: FreshRun).
use mathlib.Core.Path.{◌≡◌, refl, sym, ◌∙◌, ap, subst}
use mathlib.Core.Bool.{Bool, true, false, ◌&&◌}
use mathlib.Core.Logic.{◌⊎◌, inl, inr}
use mathlib.Core.List.{List}
use Prim.Native.Nat.{ℕ, ◌+◌, ◌-◌, ◌*◌, ◌≤◌, ◌<◌}
use native.Mathlib.Decide.{dec_lt}
use native.Mathlib.Nat.{zero-add}
use native.Mathlib.Omega.{arith}
use borrow.Author.Tests.{le-leb, lt-leb, leb-true, eqb-true}
use lib.Dec.{eqb, leb}
use lib.IntN.{ℤ}
use lib.ListN.{length, length-set}
use Rattle.std.specs.Prelude.{Result, Ok, Err}
use Rattle.base.specs.Answers.{Answer, gives, refused, unless◌refuse◌at◌else◌, and_then, settle}
use Rattle.base.specs.Ends.{End, fault, Ran, ran, report}
use Rattle.base.specs.Code.{number_of, count_answer}
use Rattle.base.specs.declared.Refusal.{Refusal}
use Rattle.base.proofs.Answers.{gives_one}
use Rattle.base.proofs.Settled.{unless_passed, needed, refused_first, both, settled, declined}
use Rattle.record.specs.Records.{AssemblyCode, MachineCode}
use Rattle.record.specs.Bytes.{Kind, assembly_kind, machine_kind}
use Rattle.record.specs.Bytes.{whole_records, record_count, records_from, records_of}
use Rattle.record.proofs.Tested.{few_records}
use Rattle.record.proofs.Tested.{records_length}
use Rattle.machine.specs.Machine.{Machine, at as machine_at}
use Rattle.machine.specs.Memories.{Assembly, machine_cells}
use Rattle.machine.specs.Calls.{sums, assembly_tests, assembly_run, run_assembly}
use Rattle.machine.specs.Calls.{memory_fits, machine_tests, fresh_state, run_from, machine_run, Told, tell}
use Rattle.machine.specs.Calls.{piece_told, Unfit, state_fits, FitsOrUnfit, state_tests, go_on_by, go_on}
use Rattle.machine.specs.Calls.{run_machine}
use Rattle.machine.specs.Calls.{ran_of, answer_without_state, without_state}
use Rattle.machine.specs.Claims.{InBounds}
use Rattle.machine.specs.Pieces.{FreshRun}
use Rattle.machine.specs.declared.State.{State}
use Rattle.machine.proofs.Inside.{kept}

-- ---- The number of records that tests give

abbrev pub number_given : {A : Type 0} → Answer (List A) → Answer ℕ
number_given tests = and_then tests (λ P. gives (length P))

-- Where the code's count of them is `last`, they gave as many records;
pub counted : {A : Type 0} {r : Result ℕ Refusal} {last : ℕ} (tests : Answer (List A)) → r ≡ Ok last
    → count_answer r ≡ number_given tests → (P : List A) × (tests ≡ gives P) × (length P ≡ last)
counted tests is e =
    let n = needed tests (λ P. gives (length P)) (sym e ∙ ap count_answer is) in
    (n.value, n.given, gives_one _ _ n.then_gives)

-- where it is a refusal, it is theirs.
pub refused_by : {A : Type 0} {r : Result ℕ Refusal} {why : Refusal} (tests : Answer (List A)) → r ≡ Err why
    → count_answer r ≡ number_given tests → tests ≡ refused (number_of why.reason) why.place
refused_by tests is e = refused_first tests length (sym e ∙ ap count_answer is)

-- What is found of code whose tests give `last` records
pub record CodeFound {Name : Type 0} (k : Kind Name) (code : List ℕ) (P : _) (last : ℕ) : Type 0 where
  pub few : last ≤ 4096
  pub whole : 5 * last ≤ length code
  pub given : records_from k code 0 last ≡ gives P

pub code_found : {Name : Type 0} (k : Kind Name) (code : List ℕ) {P : _} {last : ℕ} → whole_records code ≡ true
    → records_of k code ≡ gives P → length P ≡ last → CodeFound k code P last
code_found k code {P} {last} is_whole e all =
    let same : record_count code ≡ last = sym (records_length k code 0 (record_count code) e) ∙ all in
    record {
      few = omega (arith, few_records code is_whole);
      whole = omega arith;
      given = ap (λ (n : ℕ). records_from k code 0 n) (sym same) ∙ e;
    }

-- ---- Assembly

module _ (code : List ℕ) (m : Assembly) where
  -- The number that the tests give, from what each of them finds
  pub assembly_tested : {w s : Bool} {x : Answer AssemblyCode} {f : Bool} → whole_records code ≡ w
      → eqb (length m.store) 64 ≡ s → records_of assembly_kind code ≡ x → leb (length m.stack) 64 ≡ f
      → number_given (assembly_tests code m)
      ≡ number_given (unless w refuse 9 at 0 else
      unless s refuse 8 at 0 else
      and_then x (λ P. unless f refuse 11 at 0 else gives P))
  unfolding assembly_tests
  assembly_tested is_whole sized records fits =
      λ i. number_given (unless is_whole i refuse 9 at 0 else
      unless sized i refuse 8 at 0 else
      and_then (records i) (λ P. unless fits i refuse 11 at 0 else gives P))

  -- What was found where they give `last` records
  pub record AssemblyFound (last : ℕ) : Type 0 where
    pub records : AssemblyCode
    pub answer : assembly_tests code m ≡ gives records
    pub code_is : CodeFound assembly_kind code records last
    pub sized : length m.store ≡ 64

  pub assembly_found : {r : Result ℕ Refusal} {last : ℕ} → r ≡ Ok last
      → count_answer r ≡ number_given (assembly_tests code m) → AssemblyFound last
  unfolding assembly_tests
  assembly_found is e =
      let c = counted (assembly_tests code m) is e in
      let w = unless_passed (whole_records code) 9 0 _ c.1 in
      let s = unless_passed (eqb (length m.store) 64) 8 0 _ w.1 in
      let n = needed (records_of assembly_kind code) _ s.1 in
      let f = unless_passed (leb (length m.stack) 64) 11 0 _ n.then_gives in
      record {
        records = c.0;
        answer = c.1;
        code_is = code_found assembly_kind code w.0 (n.given ∙ f.1) c.2;
        sized = eqb-true (length m.store) 64 s.0;
      }

  -- The call
  pub assembly_declines : (budget : ℕ) {r : Result ℕ Refusal} {why : Refusal} → r ≡ Err why
      → count_answer r ≡ number_given (assembly_tests code m)
      → (refused (number_of why.reason) why.place, m) ≡ run_assembly code m budget
  unfolding run_assembly
  assembly_declines budget is e = declined (assembly_tests code m) _ _ m (refused_by (assembly_tests code m) is e)

  pub assembly_runs : (budget : ℕ) {P : AssemblyCode} → assembly_tests code m ≡ gives P
      → let r = assembly_run P m budget in
      (gives (report budget r), r.leaves.memory) ≡ run_assembly code m budget
  unfolding run_assembly
  assembly_runs budget e = settled (assembly_tests code m) _ _ m e refl

-- ---- Machine code

module _ (code : List ℕ) (m : List ℤ) (D n : ℕ) where
  pub record MachineFound (last : ℕ) : Type 0 where
    pub records : MachineCode
    pub answer : machine_tests code m D n ≡ gives records
    pub code_is : CodeFound (machine_kind n) code records last
    pub deep : D ≤ 64
    pub small : n ≤ 64
    pub cells_are : length m ≡ D + 1 + n

  pub machine_passed : {P : MachineCode} {last : ℕ} → machine_tests code m D n ≡ gives P → length P ≡ last
      → MachineFound last
  unfolding machine_tests
  machine_passed {P} e all =
      let w = unless_passed (whole_records code) 9 0 _ e in
      let n' = needed (records_of (machine_kind n) code) _ w.1 in
      let f = unless_passed (memory_fits D n m) 11 0 _ n'.then_gives in
      let deep = both (leb D 64) _ f.0 in
      let small = both (leb n 64) _ deep.1 in
      record {
        records = P;
        answer = e;
        code_is = code_found (machine_kind n) code w.0 (n'.given ∙ f.1) all;
        deep = leb-true D 64 deep.0;
        small = leb-true n 64 small.0;
        cells_are = eqb-true (length m) (D + 1 + n) small.1;
      }

-- ---- From a state

-- A run from a state that passes
abbrev pub Bounded : MachineCode → ℕ → State → List ℤ → Type 0
Bounded P D s m = InBounds sums D (machine_cells D) P s.mark (machine_at s.position s.size m)

-- keeps the memory's length.
pub length_kept : (P : MachineCode) (m : List ℤ) (D : ℕ) (s : State) (budget : ℕ) → Bounded P D s m
    → length (run_from sums P m D s budget).leaves.memory ≡ length m
length_kept P m D s budget h =
    kept sums D (machine_cells D) P (λ left. length left ≡ length m)
    (record { saved = λ left a z h. length-set left _ z ∙ h; poked = λ left i z l h. length-set left _ z ∙ h })
    budget s.mark (machine_at s.position s.size m) h refl

module _ (code : List ℕ) (m : List ℤ) (D n : ℕ) (s : State) (budget : ℕ) where
  -- What the tests found that gave P
  pub record StateFound (P : MachineCode) : Type 0 where
    pub records : machine_tests code m D n ≡ gives P
    pub placed : s.position ≤ length P
    pub held : s.size ≤ s.mark
    pub marked : s.mark ≤ D
    pub room : s.count ≤ 4294967295 - budget

  pub state_passed : {P : MachineCode} → state_tests code m D n s budget ≡ gives P → StateFound P
  unfolding state_tests
  state_passed {P} e =
      let x = needed (machine_tests code m D n) _ e in
      let y = unless_passed (state_fits s (length x.value) D budget) 15 0 (gives x.value) x.then_gives in
      let same : x.value ≡ P = gives_one _ _ y.1 in
      let first = both (leb s.position (length x.value)) _ y.0 in
      let second = both (leb s.size s.mark) _ first.1 in
      let third = both (leb s.mark D) _ second.1 in
      record {
        records = x.given ∙ ap gives same;
        placed = subst (λ (P : MachineCode). s.position ≤ length P) same
            (leb-true s.position (length x.value) first.0);
        held = leb-true s.size s.mark second.0;
        marked = leb-true s.mark D third.0;
        room = leb-true s.count (4294967295 - budget) third.1;
      }

  pub state_passes : {P : MachineCode} → StateFound P → state_tests code m D n s budget ≡ gives P
  unfolding state_tests and_then
  state_passes {P} f = simp (
    f.records,
    le-leb s.position (length P) f.placed,
    le-leb s.size s.mark f.held,
    le-leb s.mark D f.marked,
    le-leb s.count (4294967295 - budget) f.room,
  )

  -- refusals of the first tests stay
  pub first_refused : {number place : ℕ} → machine_tests code m D n ≡ refused number place
      → state_tests code m D n s budget ≡ refused number place
  unfolding state_tests and_then
  first_refused e = simp e

  pub bounded : {P : MachineCode} → StateFound P → Bounded P D s m
  bounded f = record { placed = f.placed; held = f.held; marked = f.marked }

  -- What was found, from the number of records given
  pub record StateTested (last : ℕ) : Type 0 where
    pub records : MachineCode
    pub all : length records ≡ last
    pub answer : state_tests code m D n s budget ≡ gives records
    pub state_is : StateFound records
    pub code_is : CodeFound (machine_kind n) code records last
    pub small : n ≤ 64
    pub cells_are : length m ≡ D + 1 + n

  pub state_tested : {last : ℕ} → number_given (state_tests code m D n s budget) ≡ gives last → StateTested last
  state_tested {last} e =
      let c = needed (state_tests code m D n s budget) (λ P. gives (length P)) e in
      let f = state_passed c.given in
      let all = gives_one _ _ c.then_gives in
      let g = machine_passed code m D n f.records all in
      record {
        records = c.value;
        all = all;
        answer = c.given;
        state_is = f;
        code_is = subst (λ (P : MachineCode). CodeFound (machine_kind n) code P last)
            (gives_one _ _ (sym g.answer ∙ f.records)) g.code_is;
        small = g.small;
        cells_are = g.cells_are;
      }

  -- The answer, where the code's count of the first tests is a refusal, and where it is a number
  pub still_refused : {r : Result ℕ Refusal} {why : Refusal} → r ≡ Err why
      → count_answer r ≡ number_given (machine_tests code m D n)
      → count_answer (Err why) ≡ number_given (state_tests code m D n s budget)
  unfolding and_then
  still_refused is e = sym (ap number_given (first_refused (refused_by (machine_tests code m D n) is e)))

  pub then_fifteen : (b : Bool) {r : Result ℕ Refusal} {last : ℕ} → state_fits s last D budget ≡ b → r ≡ Ok last
      → count_answer r ≡ number_given (machine_tests code m D n)
      → (unless b refuse 15 at 0 else gives last) ≡ number_given (state_tests code m D n s budget)
  unfolding state_tests and_then
  then_fifteen b fits is e =
      let c = counted (machine_tests code m D n) is e in
      let same = ap (λ k. state_fits s k D budget) c.2 ∙ fits in
      rw c.1 (rw same (sym (ap (λ k. unless b refuse 15 at 0 else gives k) c.2) ∙ passes_on b c.0))
    where
      passes_on : (b : Bool) (P : MachineCode)
          → (unless b refuse 15 at 0 else gives (length P)) ≡ number_given (unless b refuse 15 at 0 else gives P)
      passes_on true P = unfold and_then in refl
      passes_on false P = unfold and_then in refl

  -- The call
  pub state_declines : {number place : ℕ} → state_tests code m D n s budget ≡ refused number place
      → (refused number place, m) ≡ go_on code m D n s budget
  unfolding go_on_by
  state_declines e = declined (state_tests code m D n s budget) _ _ m e

  pub state_runs : {P : MachineCode} → state_tests code m D n s budget ≡ gives P
      → let r = run_from sums P m D s budget in
      (gives (piece_told s budget r), r.leaves.memory) ≡ go_on code m D n s budget
  unfolding go_on_by
  state_runs e = settled (state_tests code m D n s budget) _ _ m e refl

-- ---- From a fresh machine

-- what is told of a run without its state
pub told_ran : (e : End) (k mark : ℕ) (s : Machine (List ℤ)) → ran_of (tell e k mark s) ≡ ran e k mark
unfolding tell ran_of
told_ran End.done k mark s = refl
told_ran End.spent k mark s = refl
told_ran (fault e) k mark s = refl

-- and of a call that gives
pub without_state_of : {a : Told} {r : Ran} {m : List ℤ} {x : Answer Told × List ℤ} → r ≡ ran_of a → (gives a, m) ≡ x
    → (gives r, m) ≡ without_state x
unfolding and_then
without_state_of {m = m} tells e = (λ i. (gives (tells i), m)) ∙ ap without_state e

module _ (code : List ℕ) (m : List ℤ) (D n budget : ℕ) where
  fresh_found : {P : MachineCode} → machine_tests code m D n ≡ gives P → StateFound code m D n fresh_state budget P
  fresh_found e = record {
    records = e;
    placed = omega arith;
    held = omega arith;
    marked = omega arith;
    room = omega arith;
  }

  -- what passed the first tests passes with the state of a fresh machine, and the call from it is this call
  pub fresh_tested : {s : State} {last : ℕ} → s ≡ fresh_state → number_given (machine_tests code m D n) ≡ gives last
      → number_given (state_tests code m D n s budget) ≡ gives last
  unfolding and_then
  fresh_tested is e =
      let c = needed (machine_tests code m D n) (λ P. gives (length P)) e in
      ap (λ (s : State). number_given (state_tests code m D n s budget)) is
      ∙ ap number_given (state_passes code m D n fresh_state budget (fresh_found c.given)) ∙ c.then_gives

  pub from_fresh : {s : State} {a : Answer Told} {m' : List ℤ} → s ≡ fresh_state
      → (a, m') ≡ go_on code m D n s budget → (a, m') ≡ run_machine code m D n budget
  unfolding run_machine
  from_fresh is e = e ∙ ap (λ (s : State). go_on code m D n s budget) is

  pub machine_declines : {number place : ℕ} → machine_tests code m D n ≡ refused number place
      → (refused number place, m) ≡ without_state (run_machine code m D n budget)
  unfolding run_machine and_then
  machine_declines e =
      ap without_state (state_declines code m D n fresh_state budget (first_refused code m D n fresh_state budget e))

  pub machine_runs : {P : MachineCode} → machine_tests code m D n ≡ gives P
      → let r = machine_run P m D budget in
      (gives (report budget r), r.leaves.memory) ≡ without_state (run_machine code m D n budget)
  unfolding run_machine and_then
  machine_runs {P} e =
      let r = machine_run P m D budget in
      (λ i. (gives (ran r.end (sym (zero-add (budget - r.left)) i) r.mark), r.leaves.memory))
      ∙ (λ i. (gives (sym (told_ran r.end (0 + (budget - r.left)) r.mark r.leaves) i), r.leaves.memory))
      ∙ ap without_state (state_runs code m D n fresh_state budget
      (state_passes code m D n fresh_state budget (fresh_found e)))

-- A run keeps the memory's length.
pub keeps_length : (P : MachineCode) (m : List ℤ) (D budget : ℕ)
    → length (machine_run P m D budget).leaves.memory ≡ length m
keeps_length P m D budget =
    length_kept P m D fresh_state budget (record { placed = omega arith; held = omega arith; marked = omega arith })

-- The call, as a call with these tests (Pieces: FreshRun)
pub fresh_run : FreshRun
fresh_run code m D n budget = by (machine_tests code m D n) refl
  where
    by : (x : Answer MachineCode) → machine_tests code m D n ≡ x
        → without_state (run_machine code m D n budget)
        ≡ settle (machine_tests code m D n) (λ P. report budget (machine_run P m D budget))
        (λ P. (machine_run P m D budget).leaves.memory) m
    by (gives P) e = sym (machine_runs code m D n budget e) ∙ settled (machine_tests code m D n) _ _ m e refl
    by (refused number place) e =
        sym (machine_declines code m D n budget e) ∙ declined (machine_tests code m D n) _ _ m e

-- ---- 15's test: a state passes it exactly where it is not unfit (Calls: FitsOrUnfit)

both_false : (a b : Bool) → b ≡ false → (a && b) ≡ false
both_false true b e = e
both_false false b e = refl

module _ (s : State) (last D budget : ℕ) (small : budget ≤ 4294967295) where
  pub unfit_fails : Unfit s last D budget → state_fits s last D budget ≡ false
  unfit_fails (inl l) = simp (lt-leb _ _ l)
  unfit_fails (inr (inl l)) = both_false (leb s.position last) _ (simp (lt-leb _ _ l))
  unfit_fails (inr (inr (inl l))) =
      both_false (leb s.position last) _ (both_false (leb s.size s.mark) _ (simp (lt-leb _ _ l)))
  unfit_fails (inr (inr (inr l))) =
      let past : 4294967295 - budget < s.count = omega arith in
      both_false (leb s.position last) _
      (both_false (leb s.size s.mark) _ (both_false (leb s.mark D) _ (lt-leb _ _ past)))

  by_limits : Dec (last < s.position) → Dec (s.mark < s.size) → Dec (D < s.mark)
      → Dec (4294967295 < s.count + budget) → Unfit s last D budget ⊎ (state_fits s last D budget ≡ true)
  by_limits (yes l) q d k = inl (inl l)
  by_limits (no p) (yes l) d k = inl (inr (inl l))
  by_limits (no p) (no q) (yes l) k = inl (inr (inr (inl l)))
  by_limits (no p) (no q) (no d) (yes l) = inl (inr (inr (inr l)))
  by_limits (no p) (no q) (no d) (no k) = inr (simp (
    le-leb s.position last (omega (arith, p)),
    le-leb s.size s.mark (omega (arith, q)),
    le-leb s.mark D (omega (arith, d)),
    le-leb s.count (4294967295 - budget) (omega (arith, k)),
  ))

  pub unfit_or_fits : Unfit s last D budget ⊎ (state_fits s last D budget ≡ true)
  unfit_or_fits =
      by_limits (dec_lt last s.position) (dec_lt s.mark s.size) (dec_lt D s.mark)
      (dec_lt 4294967295 (s.count + budget))

pub fits_or_unfit : FitsOrUnfit
fits_or_unfit s last D budget small = (
  λ fits unfit.
      let fails = unfit_fails s last D budget small unfit in
      absurd (let no : ◌≡◌ {A = ℕ} 0 1 = cc in omega arith),
  λ none. elim (unfit_or_fits s last D budget small) [ inl unfit ↦ absurd (none unfit) | inr fits ↦ fits ],
)
