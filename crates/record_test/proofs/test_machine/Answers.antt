-- Each test that fails is its refusal, in the order of the definition's tests; where all pass, the records given are as
-- many as the code has.
use Rattle.std.proofs.Common.{◌≡◌, ℕ, Bool, List, length, refl, sym, ap, ◌∙◌}
use Rattle.base.specs.Answers.{Answer, gives, unless◌refuse◌at◌else◌, and_then}
use Rattle.record.specs.Records.{MachineCode}
use Rattle.record.specs.Bytes.{machine_kind, whole_records, record_count, records_of}
use Rattle.record.proofs.Tested.{records_length}
use Rattle.record_test.specs.Tests.{code_tests}
use Rattle.record_test.proofs.Testing.{tested_as, machine_same}
use Rattle.record_test.proofs.test_machine.Goals as goal

-- the number of records that the tests give, from what each of them finds
number : (code : List ℕ) (n : ℕ) (fits : Bool) {w : Bool} {x : Answer MachineCode} {f : Bool} → whole_records code ≡ w
    → records_of (machine_kind n) code ≡ x → fits ≡ f
    → and_then (code_tests code n fits) (λ P. gives (length P))
    ≡ and_then (unless w refuse 9 at 0 else
    and_then x (λ P. unless f refuse 11 at 0 else gives P)) (λ P. gives (length P))
number code n fits is_whole records fit =
    λ i. and_then (unless is_whole i refuse 9 at 0 else
    and_then (records i) (λ P. unless fit i refuse 11 at 0 else gives P)) (λ P. gives (length P))

pub returns-then-not-is_whole : goal.returns-then-not-is_whole
unfolding and_then
returns-then-not-is_whole c =
    let s = c.args in
    rw c.at.ensures
    (sym (number s.code.now s.cells s.fits (sym c.is_whole.ensures ∙ c.if-not-is_whole.true) refl refl))

pub returns-in-Some : goal.returns-in-Some
unfolding and_then
returns-in-Some c =
    let s = c.args in
    rw c.at-in-Some.ensures
    (sym
    (number s.code.now s.cells s.fits (sym c.is_whole.ensures ∙ c.if-not-is_whole.false)
    ((tested_as _ _ (machine_same s.cells) s.code.now c.machine.ensures c.mismatch.ensures).fails
    c.in-Some.place c.in-Some.is).1 refl))

pub returns-then-not-fits : goal.returns-then-not-fits
unfolding and_then
returns-then-not-fits c =
    let s = c.args in
    let t = tested_as _ _ (machine_same s.cells) s.code.now c.machine.ensures c.mismatch.ensures in
    rw c.at-then-not-fits.ensures
    (sym
    (number s.code.now s.cells s.fits (sym c.is_whole.ensures ∙ c.if-not-is_whole.false)
    (t.passes c.in_default.is).1 c.if-not-fits.true))

pub returns : goal.returns
unfolding and_then
returns c =
    let s = c.args in
    let t = tested_as _ _ (machine_same s.cells) s.code.now c.machine.ensures c.mismatch.ensures in
    let P = t.passes c.in_default.is in
    ap gives (sym (records_length (machine_kind s.cells) s.code.now 0 (record_count s.code.now) P.1))
    ∙ sym
    (number s.code.now s.cells s.fits (sym c.is_whole.ensures ∙ c.if-not-is_whole.false) P.1 c.if-not-fits.false)
