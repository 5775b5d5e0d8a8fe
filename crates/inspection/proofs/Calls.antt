-- The call: what its tests found; it has one answer (Claims: OneAnswer); what `compile` writes passes
-- (TextsPass); code that passes is run without ending short, full or astray (Inspects).
use mathlib.Core.Path.{◌≡◌, refl, sym, ◌∙◌, ap, subst}
use Prim.Native.Nat.{ℕ, ◌+◌, ◌≤◌}
use native.Mathlib.Decide.{ℕ_discrete}
use native.Mathlib.Omega.{arith}
use mathlib.Core.Bool.{true, ◌&&◌}
use mathlib.Core.List.{List}
use borrow.Author.Tests.{le-leb, leb-true, eq-eqb}
use lib.Dec.{leb}
use lib.IntN.{ℤ}
use lib.ListN.{length}
use Rattle.std.specs.Prelude.{Result, Ok, Err}
use Rattle.base.specs.Answers.{Answer, gives, refused, and_then}
use Rattle.base.specs.Code.{number_of, count_answer}
use Rattle.base.specs.Ends.{report}
use Rattle.base.specs.declared.Refusal.{Refusal}
use Rattle.base.proofs.Answers.{gives_one}
use Rattle.base.proofs.Settled.{not_both, unless_passed, needed, both}
use Rattle.text.specs.Syntax.{Command}
use Rattle.text.specs.Encoding.{Within}
use Rattle.text.specs.Sizes.{records, depth, cells}
use Rattle.text.proofs.Accepted.{accepted}
use Rattle.text.proofs.Limits.{short, shallow, few}
use Rattle.record.specs.Records.{MachineCode}
use Rattle.record.specs.Bytes.{machine_kind, whole_records, records_of}
use Rattle.record.specs.declared.Address.{Address}
use Rattle.record.proofs.Written.{whole_written, written}
use Rattle.machine.specs.Memories.{machine_cells}
use Rattle.machine.specs.Calls.{sums, machine_tests, machine_run, run_machine}
use Rattle.machine.specs.Pieces.{total}
use Rattle.machine.proofs.Calls.{number_given, counted, refused_by, CodeFound, code_found, machine_runs}
use Rattle.machine.proofs.Pieces.{pieces}
use Rattle.compile.specs.Compilation.{ccomp}
use Rattle.compile.specs.Table.{to_m_prog}
use Rattle.compile.specs.Calls.{machine_bytes}
use Rattle.compile.proofs.Calls.{machine_count, wrote}
use Rattle.compile.proofs.Codes.{codes}
use Rattle.inspection.specs.Heights.{Passing}
use Rattle.inspection.specs.Calls.{inspect_tests, Judged, After, Inspected}
use Rattle.inspection.specs.Claims.{TextsPass, OneAnswer, Inspects, InspectsInPieces, RunsSafely}
use Rattle.inspection.proofs.Judging.{judged_passes, judged_fails}
use Rattle.inspection.proofs.Compiled.{commands_pass}
use Rattle.inspection.proofs.Soundness.{sound}

-- ---- The tests

module _ (code : List ℕ) (D n : ℕ) where
  -- A refusal of the code's is theirs.
  pub refused_tests : {r : Result ℕ Refusal} {why : Refusal} → r ≡ Err why
      → count_answer r ≡ number_given (inspect_tests code D n)
      → inspect_tests code D n ≡ refused (number_of why.reason) why.place
  refused_tests is e = refused_by (inspect_tests code D n) is e

  -- The tests that were passed where they give records
  record Passed (P : MachineCode) : Type 0 where
    whole : whole_records code ≡ true
    given : records_of (machine_kind n) code ≡ gives P
    deep : leb D 64 ≡ true
    small : leb n 64 ≡ true

  passed : {P : MachineCode} → inspect_tests code D n ≡ gives P → Passed P
  unfolding inspect_tests
  passed e =
      let w = unless_passed (whole_records code) 9 0 _ e in
      let r = needed (records_of (machine_kind n) code) _ w.1 in
      let f = unless_passed (leb D 64 && leb n 64) 11 0 _ r.then_gives in
      let l = both (leb D 64) (leb n 64) f.0 in
      record { whole = w.0; given = r.given ∙ f.1; deep = l.0; small = l.1 }

  -- What was found where they give `last` records
  pub record InspectFound (last : ℕ) : Type 0 where
    pub records : MachineCode
    pub answer : inspect_tests code D n ≡ gives records
    pub all : length records ≡ last
    pub code_is : CodeFound (machine_kind n) code records last
    pub deep : D ≤ 64

  pub inspect_found : {r : Result ℕ Refusal} {last : ℕ} → r ≡ Ok last
      → count_answer r ≡ number_given (inspect_tests code D n)
      → InspectFound last
  inspect_found is e =
      let c = counted (inspect_tests code D n) is e in
      let p = passed c.1 in
      record {
        records = c.0;
        answer = c.1;
        all = c.2;
        code_is = code_found (machine_kind n) code p.whole p.given c.2;
        deep = leb-true D 64 p.deep;
      }

-- ---- The answer

-- What the call answers, from what its tests found
module _ (code : List ℕ) (D n : ℕ) where
  pub inspected_refused : {number place : ℕ} → inspect_tests code D n ≡ refused number place
      → Inspected code D n (refused number place)
  inspected_refused {number} {place} e = subst (λ x. After D x (refused number place)) (sym e) refl

  module _ {last : ℕ} (f : InspectFound code D n last) where
    pub inspected_passes : Passing D f.records → Inspected code D n (gives last)
    inspected_passes x =
        subst (λ t. After D t (gives last)) (sym f.answer)
        (subst (λ k. Judged D f.records (gives k)) f.all (judged_passes D f.records x))

    pub inspected_fails : (Passing D f.records → ⊥) → Inspected code D n (refused 13 0)
    inspected_fails none = subst (λ t. After D t (refused 13 0)) (sym f.answer) (judged_fails D f.records none)

-- An answer that is not the number of records is 13,
else_13 : (D : ℕ) (P : MachineCode) (a : Answer ℕ) → Judged D P a → (a ≡ gives (length P) → ⊥) → a ≡ refused 13 0
else_13 D P a j no-count = j.refuses.1 (λ x. no-count (j.passes.1 x))

-- and one that gives a number gives theirs.
theirs : (D : ℕ) (P : MachineCode) (k : ℕ) → Judged D P (gives k) → gives k ≡ gives (length P)
theirs D P k j = elim (ℕ_discrete k (length P)) [
  | yes e ↦ ap gives e
  | no e ↦ not_both (sym (else_13 D P (gives k) j (λ f. e (gives_one _ _ f))))
]

one_judgement : (D : ℕ) (P : MachineCode) (a b : Answer ℕ) → Judged D P a → Judged D P b → a ≡ b
one_judgement D P (gives k) b j j' =
    let is = theirs D P k j in
    is ∙ sym (j'.passes.1 (j.passes.0 is))
one_judgement D P (refused number place) b j j' =
    let is = else_13 D P (refused number place) j (λ e. not_both e) in
    is ∙ sym (j'.refuses.1 (j.refuses.0 is))

one_after : (D : ℕ) (x : Answer MachineCode) (a b : Answer ℕ) → After D x a → After D x b → a ≡ b
one_after D (gives P) a b = one_judgement D P a b
one_after D (refused number place) a b = λ e f. e ∙ sym f

pub one_answer : OneAnswer
one_answer code D n a b = one_after D (inspect_tests code D n) a b

-- ---- Compiled code

-- the machine code of a command within the limits of texts
command_passes : (c : Command) → Within c
    → Inspected (machine_bytes c) (depth c) (cells c) (gives (records c))
unfolding inspect_tests and_then
command_passes c within =
    let P : MachineCode = to_m_prog (ccomp c) in
    let count : length P ≡ records c = machine_count c in
    let room : records c ≤ 4096 = omega (arith, short c, within.short) in
    let test : inspect_tests (machine_bytes c) (depth c) (cells c) ≡ gives P =
    simp (
      whole_written (machine_kind (cells c)) P (omega arith),
      written.in_machine (cells c) P (codes c within.valid room).in_machine,
      le-leb (depth c) 64 (omega (arith, shallow c within.nested)),
      le-leb (cells c) 64 (few c),
    ) in
    subst (λ x. After (depth c) x (gives (records c))) (sym test)
    (subst (λ k. Judged (depth c) P (gives k)) count (judged_passes (depth c) P (commands_pass c).1))

-- what `compile` wrote
pub texts_pass : TextsPass
texts_pass text bytes lent left z e =
    let w = wrote text lent left z e in
    let c = w.command in
    subst (λ code. Inspected code z.depth z.cells (gives z.records)) (sym w.code_is)
    (subst (λ z. Inspected (machine_bytes c) z.depth z.cells (gives z.records)) (sym w.sizes_are)
    (command_passes c ((accepted text bytes c).0 w.reads).0))

-- ---- Code that passes

module _ (code : List ℕ) (D n k : ℕ) (memory : List ℤ) (long : length memory ≡ D + 1 + n) (budget : ℕ) where
  -- the records given, and the code found to be theirs
  given : (x : Answer MachineCode) → After D x (gives k) → (P : MachineCode) × (x ≡ gives P) × Passing D P
  given (gives P) j = (P, refl, j.passes.0 (theirs D P k j))
  given (refused number place) e = not_both (sym e)

  -- the tests of `run_machine` are passed too
  runs : (P : MachineCode) → inspect_tests code D n ≡ gives P → machine_tests code memory D n ≡ gives P
  unfolding machine_tests and_then
  runs P e =
      let f = passed code D n e in
      simp (f.whole, f.given, f.deep, f.small, eq-eqb (length memory) (D + 1 + n) long)

  pub safely : Inspected code D n (gives k) → RunsSafely code D n (run_machine code memory D n budget)
  safely j =
      let x = given (inspect_tests code D n) j in
      let P = x.0 in
      let H = x.2 in
      record {
        records = P;
        tested = x.1;
        h = H.0;
        heights = H.1;
        ran = report budget (machine_run P memory D budget);
        given = sym (ap (λ r. r.0) (machine_runs code memory D n budget (runs P x.1)));
        safely = sound sums (List ℤ) Address D (machine_cells D) P H.0 H.1 budget memory;
      }

pub inspects : Inspects
inspects code D n k j memory long budget = safely code D n k memory long budget j

pub inspects_in_pieces : InspectsInPieces
inspects_in_pieces code D n k j memory long b bs fits =
    subst (RunsSafely code D n) (sym (pieces code memory D n b bs fits))
    (inspects code D n k j memory long (total b bs))
