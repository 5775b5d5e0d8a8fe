-- A run as the code's loop makes it, over any memory: a step that goes on leaves the run that is left, one that ends
-- gives its end; the machine stays within its code, its values within its mark and that within D, and every step is
-- counted. Then the call tells what the run's result tells.
use mathlib.Core.Path.{◌≡◌, refl, sym, ◌∙◌, ap}
use Prim.Native.Nat.{ℕ, suc, ◌+◌, ◌-◌, ◌≤◌, ◌<◌, max}
use native.Mathlib.Nat.{sub-zero}
use native.Mathlib.Omega.{arith}
use mathlib.Core.List.{List}
use mathlib.Core.Option.{Option, none, some, some-injective}
use lib.ListN.{length, get_elem?}
use lib.IntN.{ℤ}
use Rattle.std.specs.Prelude.{Ok, Err}
use Rattle.base.specs.Acts.{Outcome, ok, ended}
use Rattle.base.specs.Answers.{Answer, gives}
use Rattle.base.specs.Ends as Ends
use Rattle.base.specs.Ends.{Fault, fault, Result, result, Ran, ran, report}
use Rattle.base.specs.Code.{end_of, ended as ended_with, told_run}
use Rattle.base.specs.declared.Ended as Code
use Rattle.word.specs.Sums.{holding}
use Rattle.word.specs.Targets.{Target, target}
use Rattle.std.specs.Prelude.{Some, None}
use Rattle.record.specs.Records.{Record, MachineCode}
use Rattle.record.specs.Bytes.{Kind, record_at, records_from}
use Rattle.record.proofs.Decoding.{in_list, none_due, Due, record_due}
use Rattle.record.proofs.Tested.{records_length}
use Rattle.machine.specs.Machine as Rules
use Rattle.machine.specs.Machine.{Memory, at, fresh, land, jump, act, after, run}
use Rattle.machine.specs.Memories.{machine_cells}
use Rattle.machine.specs.Calls.{sums, run_from, Told, tell, piece_told}
use Rattle.machine.specs.Code.{told_piece}
use Rattle.machine.specs.declared.State.{State}
use Rattle.machine.specs.declared.Piece as Machined
use Rattle.machine.proofs.Exact.{left_most}
use Rattle.machine.proofs.Inside.{act_within}
use Rattle.machine.proofs.Steps.{run_done, run_spent, run_step}
use Rattle.machine_step.specs.Code.{Step, fresh_machine, resumed_machine, moved, landed, machine_of}
use Rattle.machine_step.specs.Code.{Stepped, step_of, counted, does, halted_result}
use Rattle.machine_step.specs.declared.Machine.{Machine}
use Rattle.machine_step.specs.declared.Halted.{Halted}

-- A step on, as the code makes it: with the mark raised to the values left,
pub moves_to : {M : Type 0} (s : Machine) (m m' : M) (p size mark : ℕ) → mark ≡ max s.mark size
    → step_of (moved s p size mark) m' ≡ counted s m (ok tt (at p size m'))
unfolding counted
moves_to s m m' p size mark e = ap (λ (mark : ℕ). step_of (moved s p size mark) m') e

-- or as it was, where no more are left,
pub moves_below : {M : Type 0} (s : Machine) (m m' : M) (p size : ℕ) → size ≤ s.mark
    → step_of (moved s p size s.mark) m' ≡ counted s m (ok tt (at p size m'))
moves_below s m m' p size h = moves_to s m m' p size s.mark (omega arith)

-- as after a taken jump
pub landed_is : {M Name : Type 0} (D : ℕ) (o : Memory M Name) (last : ℕ) (s : Machine) (m : M) (size : ℕ) (i : ℤ)
    → size ≤ s.mark
    → step_of (landed s size (target s.position i last)) m
    ≡ counted s m (jump (sums 0) D o last i (at s.position size m))
unfolding jump
landed_is D o last s m size i h = by (target s.position i last)
  where
    by : (t : Target) → step_of (landed s size t) m
        ≡ counted s m (land (sums 0) D o last t (at s.position size m))
    by (Some p) = unfold land in moves_below s m m p size h
    by None = unfold land counted in refl

-- No end is not some end.
no_end : {A : Type 0} (a : A) → ◌≡◌ {A = Option A} none (some a) → ⊥
no_end a e = let no : ◌≡◌ {A = ℕ} 0 1 = cc in omega arith

-- The sum rule does not look at the ticks left.
same_sum : (n : ℕ) → sums n ≡ sums 0
unfolding holding
same_sum n = refl

module _ {M : Type 0} (s : Machine) (m : M) where
  -- a step that brings no end: the machine that it leaves, its count and its mark
  went_on : (x : Outcome (Rules.Machine M) Fault (Unit {0})) (s' : Machine) (m' : M)
      → step_of (Ok s') m' ≡ counted s m x
      → (x ≡ ok tt (machine_of s' m')) × (s'.count ≡ s.count + 1) × (s'.mark ≡ max s.mark s'.size)
  unfolding counted
  went_on (ok a t) s' m' e = (
    sym (ap (λ (y : Stepped M). ok tt y.leaves) e),
    ap (λ (y : Stepped M). y.count) e,
    ap (λ (y : Stepped M). y.mark) e ∙ sym (ap (λ (y : Stepped M). max s.mark y.leaves.size) e),
  )
  went_on (ended f) s' m' e = absurd (no_end _ (ap (λ (y : Stepped M). y.end) e))

  -- a step that brings an end: it is the fault's, and the machine is as it was
  ended_by : {R : Type 0} (x : Outcome (Rules.Machine M) Fault (Unit {0})) (h : Halted) (m' : M)
      (go : Rules.Machine M → R) (stop : Ends.End → ℕ → Rules.Machine M → R)
      → step_of (Err h) m' ≡ counted s m x
      → (after x go (λ e. stop (fault e) s.mark (machine_of s m))
      ≡ stop (end_of h.end) h.machine.mark (machine_of h.machine m'))
      × (h.machine.count ≡ s.count + 1)
  unfolding counted after
  ended_by (ok a t) h m' go stop e = absurd (no_end _ (sym (ap (λ (y : Stepped M). y.end) e)))
  ended_by (ended f) h m' go stop e = (
    ap (λ d. stop d s.mark (machine_of s m)) (sym (some-injective _ _ (ap (λ (y : Stepped M). y.end) e)))
        ∙ ap (λ (y : Stepped M). stop (end_of h.end) y.mark y.leaves) (sym e),
    ap (λ (y : Stepped M). y.count) e,
  )

-- The run of a code's machine with n ticks left
abbrev pub run_on : {M Name : Type 0} → ℕ → Memory M Name → List (Record Name) → ℕ → Machine → M
    → Result (Rules.Machine M)
run_on D o P n s m = run sums D o P n s.mark (machine_of s m)

-- ---- A step

module _ {M Name : Type 0} (D : ℕ) (o : Memory M Name) (P : List (Record Name)) (last : ℕ) (all : length P ≡ last)
    (s : Machine) (m : M) (r : Record Name) (due : get_elem? P s.position ≡ some r) where
  abbrev outcome : Outcome (Rules.Machine M) Fault (Unit {0})
  outcome = act (sums 0) D o last r (machine_of s m)

  -- the run after an outcome that goes on, and after one that ends
  abbrev onward : ℕ → Rules.Machine M → Result (Rules.Machine M)
  onward n t = run sums D o P n (max s.mark t.size) t

  abbrev faulted : ℕ → Fault → Result (Rules.Machine M)
  faulted n e = result (fault e) n s.mark (machine_of s m)

  by_step : (n n' : ℕ) → n ≡ suc n' → run_on D o P n s m ≡ after outcome (onward n') (faulted n')
  by_step n n' e =
      ap (λ n. run_on D o P n s m) e ∙ run_step sums D o P n' r s.mark (machine_of s m) due
      ∙ (λ i. after (act (same_sum n' i) D o (all i) r (machine_of s m)) (onward n') (faulted n'))

  -- A step that goes on: the run goes on from the machine that it leaves,
  goes_on : (n n' : ℕ) (s' : Machine) (m' : M) → n ≡ suc n' → step_of (Ok s') m' ≡ does D o last s m r
      → run_on D o P n s m ≡ run_on D o P n' s' m'
  unfolding after
  goes_on n n' s' m' e step =
      let w = went_on s m outcome s' m' step in
      by_step n n' e
      ∙ ap (λ x. after x (onward n') (faulted n')) w.0
      ∙ ap (λ μ. run sums D o P n' μ (machine_of s' m')) (sym w.2)

  -- which stands within its code, its values within its mark and that within D, the record counted.
  stays : (s' : Machine) (m' : M) → s.position < last → s.size ≤ s.mark → s.mark ≤ D
      → step_of (Ok s') m' ≡ does D o last s m r
      → (s'.position ≤ last) × (s'.size ≤ s'.mark) × (s'.mark ≤ D) × (s'.count ≡ s.count + 1)
  stays s' m' l h d step =
      let w = went_on s m outcome s' m' step in
      let b = act_within (sums 0) D o last (λ _. Unit {0})
      (record { saved = λ m x z q. tt; poked = λ m i z l q. tt })
      r s.position s.size m (machine_of s' m') w.0 l (omega arith) tt in
      let deep : s'.size ≤ D = b.1 in
      let raised : s'.mark ≡ max s.mark s'.size = w.2 in
      (b.0, omega arith, omega arith, w.1)

  -- A step that ends: the run ends by it, the record counted.
  stops_by : (n n' : ℕ) (h : Halted) (m' : M) → n ≡ suc n'
      → step_of (Err h) m' ≡ does D o last s m r
      → (run_on D o P n s m ≡ result (end_of h.end) n' h.machine.mark (machine_of h.machine m'))
      × (h.machine.count ≡ s.count + 1)
  stops_by n n' h m' e step =
      let b = ended_by s m outcome h m' (onward n') (λ d μ t. result d n' μ t) step in
      (by_step n n' e ∙ b.0, b.1)

-- ---- The loop

-- A run's course: D, the memory's form, the code and its records up to its end position, the budget, the first machine
-- and its memory
pub record Course (M Name : Type 0) : Type 0 where
  pub depth : ℕ
  pub form : Memory M Name
  pub kind : Kind Name
  pub code : List ℕ
  pub last : ℕ
  pub records : List (Record Name)
  pub given : records_from kind code 0 last ≡ gives records
  pub budget : ℕ
  pub first : Machine
  pub lent : M

-- What it comes to from a machine on, and as a whole
abbrev pub from_here : {M Name : Type 0} → Course M Name → Machine → M → Result (Rules.Machine M)
from_here c s m = run_on c.depth c.form c.records (c.budget - s.count) s m

abbrev pub whole_run : {M Name : Type 0} → Course M Name → Result (Rules.Machine M)
whole_run c = from_here c c.first c.lent

-- What the loop keeps: the run from here on comes to what the whole run comes to
pub record Going {M Name : Type 0} (course : Course M Name) (s : Machine) (m : M) : Type 0 where
  pub placed : s.position ≤ course.last
  pub held : s.size ≤ s.mark
  pub marked : s.mark ≤ course.depth
  pub used : s.count ≤ course.budget
  pub same : from_here course s m ≡ whole_run course

module _ {M Name : Type 0} {course : Course M Name} {s : Machine} {m : M} (g : Going course s m) where
  abbrev D : ℕ
  D = course.depth

  abbrev o : Memory M Name
  o = course.form

  abbrev P : List (Record Name)
  P = course.records

  abbrev last : ℕ
  last = course.last

  abbrev left : ℕ
  left = course.budget - s.count

  all : length P ≡ last
  all = records_length course.kind course.code 0 last course.given

  -- At the end position the run is done.
  pub ends_done : s.position ≡ last → result Ends.done left s.mark (machine_of s m) ≡ whole_run course
  ends_done e =
      sym (run_done sums D o P left s.mark (machine_of s m) (none_due P s.position (omega (arith, all))))
      ∙ g.same

  -- Elsewhere it is spent when the count is the budget.
  pub ends_spent : (s.position ≡ last → ⊥) → s.count ≡ course.budget
      → result Ends.spent left s.mark (machine_of s m) ≡ whole_run course
  ends_spent elsewhere e =
      let here = in_list P s.position (omega (arith, g.placed, all)) in
      let none_left : left ≡ 0 = omega arith in
      ap (λ n. result Ends.spent n s.mark (machine_of s m)) none_left
      ∙ sym (run_spent sums D o P here.0 s.mark (machine_of s m) here.1)
      ∙ ap (λ n. run_on D o P n s m) (sym none_left)
      ∙ g.same

  -- Else a step is made: the record at the position, done
  abbrev Done : Step → M → Type 0
  Done step m' = (r : Record Name) → record_at course.kind course.code s.position ≡ some r
      → step_of step m' ≡ does D o last s m r

  module _ (elsewhere : s.position ≡ last → ⊥) (more : s.count ≡ course.budget → ⊥) where
    now_due : Due course.kind course.code P s.position
    now_due =
        record_due course.kind course.code P last s.position course.given (omega (arith, g.placed))

    did : {step step' : Step} (m' : M) → step ≡ step' → Done step m'
        → step_of step' m' ≡ does D o last s m now_due.due
    did m' is done = sym (ap (λ x. step_of x m') is) ∙ done now_due.due now_due.there

    -- If it goes on, the loop keeps this, with one tick less;
    pub going_on : {step : Step} {s' : Machine} {m' : M} → step ≡ Ok s' → Done step m'
        → Going course s' m' × (course.budget - s'.count < left)
    going_on {s' = s'} {m' = m'} is done =
        let t = stays D o P last all s m now_due.due now_due.listed s' m' (omega (arith, g.placed)) g.held
        g.marked (did m' is done) in
        let one_more : s'.count ≡ s.count + 1 = t.3 in
        let used : s.count ≤ course.budget = g.used in (
          record {
            placed = t.0;
            held = t.1;
            marked = t.2;
            used = omega arith;
            same =
                sym
                (goes_on D o P last all s m now_due.due now_due.listed left (course.budget - s'.count) s' m'
                (omega arith) (did m' is done))
                ∙ g.same;
          },
          omega arith,
        )

    -- if it ends, that is the run's end.
    pub ends_by : {step : Step} {h : Halted} {m' : M} → step ≡ Err h → Done step m'
        → (result (end_of h.end) (course.budget - h.machine.count) h.machine.mark (machine_of h.machine m')
        ≡ whole_run course)
        × (h.machine.count ≤ course.budget)
    ends_by {h = h} {m' = m'} is done =
        let used : s.count ≤ course.budget = g.used in
        let b = stops_by D o P last all s m now_due.due now_due.listed left (left - 1) h m' (omega arith)
        (did m' is done) in
        let one_more : h.machine.count ≡ s.count + 1 = b.1 in
        let same : course.budget - h.machine.count ≡ left - 1 = omega arith in
        let left_is = ap (λ n. result (end_of h.end) n h.machine.mark (machine_of h.machine m')) same in
        (left_is ∙ sym b.0 ∙ g.same, omega arith)

-- ---- The call's answer

-- Of a run from a fresh machine, the code's answer tells what the run's result tells, where the count is within the
-- budget.
pub told : {M Name : Type 0} (D : ℕ) (o : Memory M Name) (P : List (Record Name)) (budget : ℕ) {s : Machine} (m : M)
    {a : Code.Ended} (r : Halted) (m' : M) → s ≡ fresh_machine → a ≡ ended_with r.end r.machine.count r.machine.mark
    → r.machine.count ≤ budget → halted_result budget r m' ≡ run_on D o P (budget - s.count) s m
    → let R = run sums D o P budget 0 (fresh m) in
    ◌≡◌ {A = Answer Ran × M} (gives (told_run a), m') (gives (report budget R), R.leaves.memory)
told D o P budget m r m' is-fresh answer within same =
    (λ i. (gives (told_run (answer i)), m'))
    ∙ (λ i. (gives (ran (end_of r.end) (count i) r.machine.mark), m'))
    ∙ (λ i. (gives (report budget (whole i)), (whole i).leaves.memory))
  where
    count : r.machine.count ≡ budget - (budget - r.machine.count)
    count = omega arith

    whole : halted_result budget r m' ≡ run sums D o P budget 0 (fresh m)
    whole =
        same
        ∙ ap (λ (s : Machine). run_on D o P (budget - s.count) s m) is-fresh
        ∙ ap (λ (n : ℕ). run sums D o P n 0 (fresh m)) (sub-zero budget)

-- Of a run of machine code from a state, likewise, where the count is within its limit.
module _ (D : ℕ) (P : MachineCode) (budget : ℕ) (s : State) (m : List ℤ) where
  abbrev R : Result (Rules.Machine (List ℤ))
  R = run_from sums P m D s budget

  pub told_from : {limit : ℕ} {first : Machine} (a : Machined.Piece) (r : Halted) (m' : List ℤ)
      → first ≡ resumed_machine s → limit ≡ s.count + budget
      → told_piece a ≡ tell (end_of r.end) r.machine.count r.machine.mark (machine_of r.machine m')
      → r.machine.count ≤ limit
      → halted_result limit r m' ≡ run_on D (machine_cells D) P (limit - first.count) first m
      → ◌≡◌ {A = Answer Told × List ℤ} (gives (told_piece a), m') (gives (piece_told s budget R), R.leaves.memory)
  told_from {limit = limit} a r m' is-first is-limit answer within same =
      (λ i. (gives (answer i), m'))
      ∙ (λ i. (gives (tell (end_of r.end) (count i) r.machine.mark (machine_of r.machine m')), m'))
      ∙ (λ i. (gives (piece_told s budget (whole i)), (whole i).leaves.memory))
    where
      ticks : limit - s.count ≡ budget
      ticks = omega (arith, is-limit)

      whole : halted_result limit r m' ≡ R
      whole =
          same
          ∙ ap (λ (first : Machine). run_on D (machine_cells D) P (limit - first.count) first m) is-first
          ∙ ap (λ (n : ℕ). run sums D (machine_cells D) P n s.mark (at s.position s.size m)) ticks

      count : r.machine.count ≡ s.count + (budget - (limit - r.machine.count))
      count =
          let left : limit - r.machine.count ≡ R.left = ap
          (λ (r : Result (Rules.Machine (List ℤ))). r.left) whole in
          let most = left_most sums D (machine_cells D) P budget s.mark (at s.position s.size m) in
          omega (arith, within, is-limit, most)
