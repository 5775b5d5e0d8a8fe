-- The call declines by its tests, or runs on a memory of its own. Demand 3 then follows from the call's equation.
use Rattle.std.proofs.Common.{◌≡◌, ℕ, List, sym, ◌∙◌, ap, arith}
use Rattle.std.proofs.lemmas.Result.{err_from_is_err_and}
use Rattle.base.specs.Answers.{Answer}
use Rattle.base.specs.Ends.{Ran}
use Rattle.text.specs.Code.{sizes_answer}
use Rattle.source.specs.Rules.{Store}
use Rattle.source.specs.Calls.{run_source}
use Rattle.fitting.specs.Paired.{run_paired, ByCompiler}
use Rattle.fitting.proofs.Paired.{pair_declines, paired_fitted}
use Rattle.fitting_paired.proofs.Running.{own_depth, passes_own, room, zeros_long, zeros_taken}
use Rattle.fitting_paired.proofs.run_paired.Goals as goal

-- demand 3, from the call's equation
demanded : (code t : List ℕ) (store left : Store) (D budget : ℕ) (x : Answer Ran)
    → (x, left) ≡ run_paired code t store D budget
    → (text : List ℕ) → ByCompiler text code t D → run_source text store budget ≡ (x, left)
demanded code t store left D budget x e text pair = sym (e ∙ paired_fitted text code t D pair store budget)

pub returns-in_err-sizes-clause-store_after : goal.returns-in_err-sizes-clause-store_after
returns-in_err-sizes-clause-store_after c =
    let a = c.args in
    let e = err_from_is_err_and c.from_residual.result c.from_residual.ensures.1 in
    rw (e.1, e.2)
    (pair_declines a.code.now a.table.now a.store.now a.depth a.budget
    (sym c.test.ensures ∙ ap sizes_answer c.in_err-sizes.was))

pub returns-in_err-sizes-clause-of_compiled : goal.returns-in_err-sizes-clause-of_compiled
returns-in_err-sizes-clause-of_compiled c =
    let a = c.args in
    demanded a.code.now a.table.now a.store.now _ a.depth a.budget _ (returns-in_err-sizes-clause-store_after c)

pub overflow_add-size : goal.overflow_add-size
overflow_add-size c = omega (arith, room _ _ _ _ (sym c.test.ensures ∙ ap sizes_answer c.in_ok-sizes.was))

pub overflow_add-size-2 : goal.overflow_add-size-2
overflow_add-size-2 c = omega (arith, room _ _ _ _ (sym c.test.ensures ∙ ap sizes_answer c.in_ok-sizes.was))

-- 129 cells are enough
pub slice_bounds-memory-end : goal.slice_bounds-memory-end
slice_bounds-memory-end c = room _ _ _ _ (sym c.test.ensures ∙ ap sizes_answer c.in_ok-sizes.was)

pub slice_bounds-load_run_read-end : goal.slice_bounds-load_run_read-end
slice_bounds-load_run_read-end c =
    zeros_long _ 129 (room _ _ _ _ (sym c.test.ensures ∙ ap sizes_answer c.in_ok-sizes.was))

pub load_run_read-requires-clause-tested : goal.load_run_read-requires-clause-tested
load_run_read-requires-clause-tested c = passes_own _ _ _ _ (sym c.test.ensures ∙ ap sizes_answer c.in_ok-sizes.was)

pub load_run_read-requires-clause-memory_zeros : goal.load_run_read-requires-clause-memory_zeros
load_run_read-requires-clause-memory_zeros c =
    zeros_taken _ 129 (room _ _ _ _ (sym c.test.ensures ∙ ap sizes_answer c.in_ok-sizes.was))

pub returns-clause-store_after : goal.returns-clause-store_after
returns-clause-store_after c =
    let a = c.args in
    c.load_run_read.ensures
    ∙ ap (λ D. run_paired a.code.now a.table.now a.store.now D a.budget)
    (own_depth _ _ _ _ (sym c.test.ensures ∙ ap sizes_answer c.in_ok-sizes.was))

pub returns-clause-of_compiled : goal.returns-clause-of_compiled
returns-clause-of_compiled c =
    let a = c.args in
    demanded a.code.now a.table.now a.store.now _ a.depth a.budget _ (returns-clause-store_after c)
