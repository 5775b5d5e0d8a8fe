-- The call: what the tests refuse, the call refuses; where they give a number of records, the run of these from a
-- fresh machine is the definition's run.
use mathlib.Core.Path.{sym, subst, ◌∙◌}
use native.Mathlib.Omega.{arith}
use borrow.Author.Rules.{rules}
use lib.ListN.{length}
use Rattle.std.proofs.lemmas.Result.{err_from_is_err_and}
use Rattle.machine.specs.Memories.{assembly}
use Rattle.machine.proofs.Calls.{assembly_found, assembly_declines, assembly_runs}
use Rattle.machine_step.specs.Steps.{assembly_of}
use Rattle.machine_step.specs.Runs.{Starts}
use Rattle.machine_step.specs.declared.Machine.{Machine}
use Rattle.machine_step.proofs.Running.{told}
use Rattle.assembly_run.proofs.run_assembly.Goals as goal

pub finish-requires-clause-starts : goal.finish-requires-clause-starts
finish-requires-clause-starts c =
    let s = c.args in
    let f = assembly_found s.code.now (assembly_of s.store.now s.stack.now) c.in_ok-last.was c.test.ensures in
    subst
    (λ (m : Machine). Starts m (length s.stack.now) c.in_ok-last.last s.budget)
    (sym c.fresh.ensures)
    (record {
      few = f.code_is.few;
      placed = search rules;
      held = search rules;
      marked = search rules;
      used = search rules;
    })

pub finish-requires-clause-passed : goal.finish-requires-clause-passed
finish-requires-clause-passed c =
    let s = c.args in
    let f = assembly_found s.code.now (assembly_of s.store.now s.stack.now) c.in_ok-last.was c.test.ensures in
    record {
      records = f.records;
      given = f.code_is.given;
      whole = f.code_is.whole;
      fits = (f.sized, omega arith);
    }

pub returns-in_err-last : goal.returns-in_err-last
returns-in_err-last c =
    let s = c.args in
    let e = err_from_is_err_and c.from_residual.result c.from_residual.ensures.1 in
    rw (e.1, e.2)
    (assembly_declines s.code.now (assembly_of s.store.now s.stack.now) s.budget c.in_err-last.was c.test.ensures)

pub returns : goal.returns
returns c =
    let s = c.args in
    let memory = assembly_of s.store.now s.stack.now in
    let f = assembly_found s.code.now memory c.in_ok-last.was c.test.ensures in
    told (length s.stack.now) assembly f.records s.budget memory c.finish.result _ c.fresh.ensures c.answer.ensures
    c.finish.ensures.count_le_limit (c.finish.ensures.runs f.records f.code_is.given)
    ∙ assembly_runs s.code.now memory s.budget f.answer
