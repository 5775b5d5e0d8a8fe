-- Compiling declined, or going back started from what it wrote. What the claim says of the output then follows from the
-- equation.
use Rattle.std.proofs.Common.{ap, arith}
use Rattle.std.proofs.lemmas.Result.{err_from_is_err_and}
use Rattle.base.proofs.Rows.{ends_there, goes_on, is_last}
use Rattle.text.specs.Code.{sizes_answer}
use Rattle.compile.specs.Calls.{Compiled}
use Rattle.compile.proofs.Calls.{compile_room}
use Rattle.fitting.specs.Rows as Rows
use Rattle.fitting.specs.Rows.{back_buffers}
use Rattle.fitting_pairs.proofs.Pairs.{same_assembly}
use Rattle.fitting_pairs.proofs.compile_and_go_back.Goals as goal

pub returns-in_err-sizes-clause-row : goal.returns-in_err-sizes-clause-row
unfolding Rows.compile_and_go_back
returns-in_err-sizes-clause-row c =
    let e = err_from_is_err_and c.from_residual.result c.from_residual.ensures.1 in
    rw (e.1, e.2)
    (ends_there (λ (k : Compiled). back_buffers k.code k.table c.args.out.now) _ c.compile.ensures
    (ap sizes_answer c.in_err-sizes.was))

pub returns-in_err-sizes-clause-of_accepted : goal.returns-in_err-sizes-clause-of_accepted
returns-in_err-sizes-clause-of_accepted c =
    let a = c.args in
    same_assembly a.text.now (λ i. omega (arith, c.type_inv.text i))
    (back_buffers a.code.now a.table.now a.out.now) _ _
    (returns-in_err-sizes-clause-row c)

pub go_back_from-requires : goal.go_back_from-requires
go_back_from-requires c = compile_room _ _ c.compile.ensures (ap sizes_answer c.in_ok-sizes.was)

pub returns-clause-row : goal.returns-clause-row
unfolding Rows.compile_and_go_back
returns-clause-row c =
    goes_on (λ (k : Compiled). back_buffers k.code k.table c.args.out.now) _ c.compile.ensures
    (ap sizes_answer c.in_ok-sizes.was) (is_last (back_buffers _ _) c.go_back_from.ensures)

pub returns-clause-of_accepted : goal.returns-clause-of_accepted
returns-clause-of_accepted c =
    let a = c.args in
    same_assembly a.text.now (λ i. omega (arith, c.type_inv.text i))
    (back_buffers a.code.now a.table.now a.out.now) _ _
    (returns-clause-row c)
