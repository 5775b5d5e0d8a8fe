-- The tests of a call on assembly: each that fails is its refusal, in the order of the definition's tests; where all
-- pass, the records given are as many as the code has.
use Rattle.std.proofs.Common.{refl, sym, ap, ◌∙◌, eq-eqb}
use borrow.Author.Tests.{ne_eqb, le-leb, lt-leb}
use Rattle.base.specs.Answers.{gives, and_then}
use Rattle.record.specs.Bytes.{assembly_kind, record_count}
use Rattle.record_test.proofs.Testing.{tested_as, assembly_same}
use Rattle.record.proofs.Tested.{records_length}
use Rattle.machine.proofs.Calls.{assembly_tested}
use Rattle.machine_step.specs.Steps.{assembly_of}
use Rattle.assembly_run.proofs.test.Goals as goal

pub returns-then-not-is_whole : goal.returns-then-not-is_whole
unfolding and_then
returns-then-not-is_whole c =
    let s = c.args in
    rw c.at.ensures
    (sym
    (assembly_tested s.code.now (assembly_of s.store.now s.stack.now)
    (sym c.is_whole.ensures ∙ c.if-not-is_whole.true) refl refl refl))

pub returns-then-store-ne-VARIABLES : goal.returns-then-store-ne-VARIABLES
unfolding and_then
returns-then-store-ne-VARIABLES c =
    let s = c.args in
    rw c.at-then-store-ne-VARIABLES.ensures
    (sym
    (assembly_tested s.code.now (assembly_of s.store.now s.stack.now)
    (sym c.is_whole.ensures ∙ c.if-not-is_whole.false) (ne_eqb _ _ c.if-store-ne-VARIABLES.true) refl refl))

pub returns-in-Some : goal.returns-in-Some
unfolding and_then
returns-in-Some c =
    let s = c.args in
    rw c.at-in-Some.ensures
    (sym
    (assembly_tested s.code.now (assembly_of s.store.now s.stack.now)
    (sym c.is_whole.ensures ∙ c.if-not-is_whole.false) (eq-eqb _ _ c.if-store-ne-VARIABLES.false)
    ((tested_as _ _ assembly_same s.code.now c.assembly.ensures c.mismatch.ensures).fails
    c.in-Some.place c.in-Some.is).1 refl))

pub returns-then-stack-gt-STACK_CELLS : goal.returns-then-stack-gt-STACK_CELLS
unfolding and_then
returns-then-stack-gt-STACK_CELLS c =
    let s = c.args in
    let t = tested_as _ _ assembly_same s.code.now c.assembly.ensures c.mismatch.ensures in
    rw c.at-then-stack-gt-STACK_CELLS.ensures
    (sym
    (assembly_tested s.code.now (assembly_of s.store.now s.stack.now)
    (sym c.is_whole.ensures ∙ c.if-not-is_whole.false) (eq-eqb _ _ c.if-store-ne-VARIABLES.false)
    (t.passes c.in_default.is).1 (lt-leb _ _ c.if-stack-gt-STACK_CELLS.true)))

pub returns : goal.returns
unfolding and_then
returns c =
    let s = c.args in
    let t = tested_as _ _ assembly_same s.code.now c.assembly.ensures c.mismatch.ensures in
    let P = t.passes c.in_default.is in
    ap gives (sym (records_length assembly_kind s.code.now 0 (record_count s.code.now) P.1))
    ∙ sym
    (assembly_tested s.code.now (assembly_of s.store.now s.stack.now)
    (sym c.is_whole.ensures ∙ c.if-not-is_whole.false) (eq-eqb _ _ c.if-store-ne-VARIABLES.false) P.1
    (le-leb _ _ c.if-stack-gt-STACK_CELLS.false))
