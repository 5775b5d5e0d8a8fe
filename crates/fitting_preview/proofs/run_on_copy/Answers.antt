-- The copy holds what the memory holds, so the run is that of `run_machine`, and what is read back from it is the
-- preview's store.
use Rattle.std.proofs.Common.{length, ap, ◌∙◌, arith}
use Rattle.base.specs.Answers.{gives}
use Rattle.base.specs.Code.{told_run}
use Rattle.machine.specs.Calls.{run_machine, without_state}
use Rattle.compile.specs.Table.{named_in}
use Rattle.fitting.proofs.Calls.{previews}
use Rattle.fitting_preview.proofs.Tests.{tested, in_copy, room}
use Rattle.fitting_preview.proofs.run_on_copy.Goals as goal

pub run_tested-ended-requires : goal.run_tested-ended-requires
run_tested-ended-requires c =
    let same = c.copy_over.ensures.whole c.requires.memory_len in
    (named_in c.args.table.now, in_copy _ _ _ _ _ (tested _ _ _ _ _ c.requires.tested) same)

pub to_store-requires : goal.to_store-requires
to_store-requires c =
    let same = ap length (c.copy_over.ensures.whole c.requires.memory_len) in
    room _ _ _ _ _ (tested _ _ _ _ _ c.requires.tested) (omega (arith, c.run_tested-ended.auto.memory, same))

pub returns : goal.returns
returns c =
    let s = c.args in
    let n = named_in s.table.now in
    let x = tested s.code.now s.memory.now s.depth s.table.now s.store.now c.requires.tested in
    let same = c.copy_over.ensures.whole c.requires.memory_len in
    ap (λ store. (gives (told_run c.run_tested-ended.result), store)) c.to_store.ensures
    ∙ previews s.code.now s.memory.now s.depth s.table.now s.store.now x.passes s.budget
    (c.run_tested-ended.ensures n (in_copy _ _ _ _ _ x same)
    ∙ ap (λ m. without_state (run_machine s.code.now m s.depth n s.budget)) same)
