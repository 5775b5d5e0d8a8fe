-- Assembling declined, or the run started from what it wrote. What the claim says of the run then follows from the
-- equation.
use Rattle.std.proofs.Common.{ap, arith}
use Rattle.std.proofs.lemmas.Result.{err_from_is_err_and}
use Rattle.base.proofs.Rows.{ends_there, goes_on, is_last}
use Rattle.text.specs.Code.{sizes_answer}
use Rattle.machine.specs.Memories.{Assembly}
use Rattle.compile.proofs.Calls.{assemble_room}
use Rattle.fitting.specs.Rows as Rows
use Rattle.fitting.specs.Rows.{assembly_buffers}
use Rattle.fitting_pairs.proofs.Pairs.{same_run}
use Rattle.fitting_pairs.proofs.assemble_and_run.Goals as goal

pub returns-in_err-sizes-clause-row : goal.returns-in_err-sizes-clause-row
unfolding Rows.assemble_and_run
returns-in_err-sizes-clause-row c =
    let a = c.args in
    let memory : Assembly = record { stack = a.stack.now; store = a.store.now } in
    let e = err_from_is_err_and c.from_residual.result c.from_residual.ensures.1 in
    rw (e.1, e.2)
    (ends_there (λ code. assembly_buffers code memory) _ c.assemble.ensures (ap sizes_answer c.in_err-sizes.was))

pub returns-in_err-sizes-clause-of_accepted : goal.returns-in_err-sizes-clause-of_accepted
returns-in_err-sizes-clause-of_accepted c =
    let a = c.args in
    same_run a.text.now (λ i. omega (arith, c.type_inv.text i))
    (assembly_buffers a.code.now (record { stack = a.stack.now; store = a.store.now })) _ a.budget _
    (returns-in_err-sizes-clause-row c)

pub run_records-requires : goal.run_records-requires
run_records-requires c = assemble_room _ _ c.assemble.ensures (ap sizes_answer c.in_ok-sizes.was)

pub returns-clause-row : goal.returns-clause-row
unfolding Rows.assemble_and_run
returns-clause-row c =
    let a = c.args in
    let memory : Assembly = record { stack = a.stack.now; store = a.store.now } in
    goes_on (λ code. assembly_buffers code memory) _ c.assemble.ensures (ap sizes_answer c.in_ok-sizes.was)
    (is_last (assembly_buffers _) c.run_records.ensures)

pub returns-clause-of_accepted : goal.returns-clause-of_accepted
returns-clause-of_accepted c =
    let a = c.args in
    same_run a.text.now (λ i. omega (arith, c.type_inv.text i))
    (assembly_buffers a.code.now (record { stack = a.stack.now; store = a.store.now })) _ a.budget _
    (returns-clause-row c)
