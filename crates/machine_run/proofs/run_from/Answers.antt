-- A run from a state, over code, memory and state that passed the tests: they give what `finish` asks for, and its
-- answer tells what the definition's run tells.
use mathlib.Core.Path.{◌≡◌, sym, ap, subst, ◌∙◌}
use Prim.Native.Nat.{ℕ, ◌+◌, ◌-◌}
use native.Mathlib.Omega.{arith}
use lib.ListN.{length}
use Rattle.record.specs.Bytes.{machine_kind, records_from}
use Rattle.machine.proofs.Calls.{state_tested, state_runs}
use Rattle.machine_step.specs.declared.Machine.{Machine}
use Rattle.machine_step.specs.Runs.{Starts}
use Rattle.machine_step.proofs.Running.{told_from}
use Rattle.machine_run.proofs.run_from.Goals as goal

pub finish-requires-clause-starts : goal.finish-requires-clause-starts
finish-requires-clause-starts c =
    let s = c.args in
    let f = state_tested s.code.now s.memory.now s.depth c.requires.0 s.state c.requires.1
    c.requires.2.0 in
    subst
    (λ (m : Machine). Starts m s.depth s.last s.limit)
    (sym c.resumed.ensures)
    (record {
      few = f.code_is.few;
      placed = omega (arith, f.state_is.placed, f.all);
      held = f.state_is.held;
      marked = f.state_is.marked;
      used = omega (arith, c.requires.2.1);
    })

pub finish-requires-clause-passed : goal.finish-requires-clause-passed
finish-requires-clause-passed c =
    let s = c.args in
    let f = state_tested s.code.now s.memory.now s.depth c.requires.0 s.state c.requires.1
    c.requires.2.0 in
    let n_is : length s.memory.now - (s.depth + 1) ≡ c.requires.0 = omega (arith, f.cells_are) in
    record {
      records = f.records;
      given = ap (λ (n : ℕ). records_from (machine_kind n) s.code.now 0 s.last) n_is ∙ f.code_is.given;
      whole = f.code_is.whole;
      fits = (omega (arith, f.cells_are), omega (arith, f.cells_are, f.small));
    }

pub returns : goal.returns
returns c n budget tested =
    let s = c.args in
    let f = state_tested s.code.now s.memory.now s.depth n s.state budget tested.0 in
    let n_is : length s.memory.now - (s.depth + 1) ≡ n = omega (arith, f.cells_are) in
    let given = ap (λ (n : ℕ). records_from (machine_kind n) s.code.now 0 s.last) n_is ∙ f.code_is.given in
    told_from s.depth f.records budget s.state s.memory.now c.piece.result c.finish.result _
    c.resumed.ensures tested.1 (c.piece.ensures _) c.finish.ensures.count_le_limit
    (c.finish.ensures.runs f.records given)
    ∙ state_runs s.code.now s.memory.now s.depth n s.state budget f.answer
