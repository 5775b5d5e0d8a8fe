-- The preview: it declines by its tests, or runs on copies of the memory and of the store.
use Rattle.std.proofs.Common.{◌≡◌, ℕ, ◌≤◌, pos, length, take, replicate, ap, ◌∙◌, arith}
use lib.ListN.{length-replicate, length-take}
use Rattle.base.proofs.Answers.{answers}
use Rattle.base.proofs.Settled.{preview_declined}
use Rattle.machine.proofs.Calls.{refused_by}
use Rattle.fitting.specs.Calls.{preview_machine}
use Rattle.fitting_preview.proofs.Tests.{tests, tested, store_cells, memory_cells}
use Rattle.fitting_preview.proofs.preview_machine.Goals as goal

-- As many of the copy's cells as the memory has
prefix : (k : ℕ) → k ≤ 129 → k ≡ length (take k (replicate 129 (pos 0)))
prefix k l = omega (arith, length-take k (replicate 129 (pos 0)), length-replicate 129 (pos 0))

pub copy_over-requires : goal.copy_over-requires
copy_over-requires c =
    omega (arith, store_cells _ _ _ _ _ (tested _ _ _ _ _ (answers c.test.ensures c.in-Ok.is)))

pub slice_bounds-copy-end : goal.slice_bounds-copy-end
slice_bounds-copy-end c = memory_cells _ _ _ _ _ (tested _ _ _ _ _ (answers c.test.ensures c.in-Ok.is))

pub slice_bounds-run_on_copy-end : goal.slice_bounds-run_on_copy-end
slice_bounds-run_on_copy-end c =
    prefix _ (memory_cells _ _ _ _ _ (tested _ _ _ _ _ (answers c.test.ensures c.in-Ok.is)))

pub run_on_copy-ended-requires-clause-tested : goal.run_on_copy-ended-requires-clause-tested
run_on_copy-ended-requires-clause-tested c =
    let s = c.args in
    let e = answers c.test.ensures c.in-Ok.is in
    ap (λ store. tests s.code.now s.memory.now s.depth s.table.now store)
    (c.copy_over.ensures.whole (store_cells _ _ _ _ _ (tested _ _ _ _ _ e))) ∙ e

pub run_on_copy-ended-requires-clause-memory_len : goal.run_on_copy-ended-requires-clause-memory_len
run_on_copy-ended-requires-clause-memory_len c =
    prefix _ (memory_cells _ _ _ _ _ (tested _ _ _ _ _ (answers c.test.ensures c.in-Ok.is)))

pub returns-in-Err-clause-answer : goal.returns-in-Err-clause-answer
unfolding preview_machine
returns-in-Err-clause-answer c =
    c.decline.ensures ∙ preview_declined _ _ (refused_by _ c.in-Err.is c.test.ensures)

pub returns-in-Ok-clause-answer : goal.returns-in-Ok-clause-answer
returns-in-Ok-clause-answer c =
    let s = c.args in
    let e = answers c.test.ensures c.in-Ok.is in
    c.run_on_copy-ended.ensures
    ∙ ap (λ store. preview_machine s.code.now s.memory.now s.depth s.table.now store s.budget)
    (c.copy_over.ensures.whole (store_cells _ _ _ _ _ (tested _ _ _ _ _ e)))
