-- `test_pair` makes its tests in their order: each return is one of the laws of `Tests`.
use Rattle.std.proofs.Common.{sym, ◌∙◌}
use Rattle.std.proofs.lemmas.Result.{err_from_is_err_and}
use Rattle.fitting_paired.proofs.Tests.{no_record, counted_records, passes, disagree, too_deep}
use Rattle.fitting_paired.proofs.Tests.{all_passed}
use Rattle.fitting_paired.proofs.test_pair.Goals as goal

-- 10
pub returns-in_err-count : goal.returns-in_err-count
returns-in_err-count c =
    let s = c.args in
    let e = err_from_is_err_and c.from_residual.result c.from_residual.ensures.1 in
    rw (e.1, e.2) (no_record _ _ s.depth c.requires.0 c.in_err-count.was c.test_machine.ensures)

pub agrees-requires : goal.agrees-requires
agrees-requires c =
    let s = c.args in
    passes _ _ _ _ (counted_records _ _ s.depth c.requires.0 c.in_ok-count.was c.test_machine.ensures) c.requires.1

-- 14
pub returns-then-not-agrees : goal.returns-then-not-agrees
returns-then-not-agrees c =
    let s = c.args in
    let x = counted_records _ _ s.depth c.requires.0 c.in_ok-count.was c.test_machine.ensures in
    rw c.at.ensures
    (disagree _ _ _ _ x (sym (c.agrees.ensures (passes _ _ _ _ x c.requires.1)) ∙ c.if-not-agrees.true))

-- 11
pub returns-then-depth : goal.returns-then-depth
returns-then-depth c =
    let s = c.args in
    let x = counted_records _ _ s.depth c.requires.0 c.in_ok-count.was c.test_machine.ensures in
    rw c.at-then-depth.ensures
    (too_deep _ _ _ _ x (sym (c.agrees.ensures (passes _ _ _ _ x c.requires.1)) ∙ c.if-not-agrees.false)
    c.if-depth.true)

-- none
pub returns : goal.returns
returns c =
    let s = c.args in
    let x = counted_records _ _ s.depth c.requires.0 c.in_ok-count.was c.test_machine.ensures in
    all_passed _ _ _ _ x (sym (c.agrees.ensures (passes _ _ _ _ x c.requires.1)) ∙ c.if-not-agrees.false)
    c.if-depth.false
