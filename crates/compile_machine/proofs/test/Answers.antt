-- `test` makes the tests of compiling in their order: each return is one of the laws of `Laws`.
use Rattle.std.proofs.Common.{ap, ◌∙◌, arith}
use Rattle.std.proofs.lemmas.Result.{err_from_is_err_and}
use Rattle.base.specs.Answers.{gives}
use Rattle.text.specs.Encoding.{Bytes}
use Rattle.compile_assembly.proofs.Calls.{found}
use Rattle.compile_machine.proofs.Laws.{unread, no_table, too_short, passes}
use Rattle.compile_machine.proofs.test.Goals as goal

pub returns-in_err-sizes : goal.returns-in_err-sizes
returns-in_err-sizes c =
    let e = err_from_is_err_and c.from_residual.result c.from_residual.ensures.1 in
    rw (e.1, e.2)
    (unread _ _ _ c.read.ensures c.in_err-sizes.was)

pub returns-then-table-ne-TABLE_BYTES : goal.returns-then-table-ne-TABLE_BYTES
returns-then-table-ne-TABLE_BYTES c =
    let bytes : Bytes c.args.text.now = λ i. (c.type_inv.text i).fits in
    let f = found bytes c.read.ensures c.in_ok-sizes.was in
    rw c.at.ensures (no_table _ _ _ f.read c.if-table-ne-TABLE_BYTES.true)

pub overflow_mul-sizes : goal.overflow_mul-sizes
overflow_mul-sizes c =
    let bytes : Bytes c.args.text.now = λ i. (c.type_inv.text i).fits in
    let f = found bytes c.read.ensures c.in_ok-sizes.was in
    record { fits = omega (arith, f.count, f.few) }

pub returns-then-code-sizes : goal.returns-then-code-sizes
returns-then-code-sizes c =
    let bytes : Bytes c.args.text.now = λ i. (c.type_inv.text i).fits in
    let f = found bytes c.read.ensures c.in_ok-sizes.was in
    rw c.at-then-code-sizes.ensures
    (too_short _ _ _ f.read c.if-table-ne-TABLE_BYTES.false (omega (arith, c.if-code-sizes.true, f.count)))

pub returns : goal.returns
returns c =
    let bytes : Bytes c.args.text.now = λ i. (c.type_inv.text i).fits in
    let f = found bytes c.read.ensures c.in_ok-sizes.was in
    ap gives f.tells
    ∙ passes _ _ _ f.read c.if-table-ne-TABLE_BYTES.false (omega (arith, c.if-code-sizes.false, f.count))
