-- Compiling declined, or the row went on with what it gave and left. Demand 3 then follows from the row's equation.
use Rattle.std.proofs.Common.{◌≡◌, ℕ, List, sym, ◌∙◌, ap, arith}
use Rattle.std.proofs.lemmas.Result.{err_from_is_err_and}
use Rattle.base.specs.Answers.{Answer, gives}
use Rattle.base.specs.Ends.{Ran}
use Rattle.base.proofs.Rows.{ends_there, goes_on}
use Rattle.text.specs.Syntax.{Command}
use Rattle.text.specs.Reading.{read_text}
use Rattle.text.specs.Encoding.{Bytes}
use Rattle.text.specs.Code.{sizes_answer}
use Rattle.source.specs.Calls.{run_source}
use Rattle.compile.specs.Calls.{Compiled}
use Rattle.compile.proofs.Calls.{compile_room}
use Rattle.fitting.specs.Rows as Rows
use Rattle.fitting.specs.Rows.{Lent, buffers}
use Rattle.fitting.specs.Demand3.{Ready}
use Rattle.fitting.proofs.Demand3.{rows_fitted}
use Rattle.fitting_row.proofs.fit.Goals as goal

-- the row's demand 3, from its equation
demanded : (text : List ℕ) → Bytes text → (l l' : Lent) (budget : ℕ) (x : Answer Ran) → (x, l') ≡ Rows.fit text l budget
    → (c : Command) → read_text text ≡ gives c
    → Ready c (record { code = l.code; table = l.table }) l.memory l.store
    → run_source text l.store budget ≡ (x, l'.store)
demanded text bytes l l' budget x e c read ready =
    (rows_fitted text bytes c read l ready budget).same_run
    ∙ sym (ap (λ (y : Answer Ran × Lent). (y.0, y.1.store)) e)

pub returns-in_err-sizes-clause-row : goal.returns-in_err-sizes-clause-row
unfolding Rows.fit
returns-in_err-sizes-clause-row c =
    let a = c.args in
    let e = err_from_is_err_and c.from_residual.result c.from_residual.ensures.1 in
    rw (e.1, e.2)
    (ends_there (λ (l : Compiled). buffers l.code l.table a.memory.now a.store.now) _ c.compile.ensures
    (ap sizes_answer c.in_err-sizes.was))

pub returns-in_err-sizes-clause-of_accepted : goal.returns-in_err-sizes-clause-of_accepted
returns-in_err-sizes-clause-of_accepted c =
    let a = c.args in
    demanded a.text.now (λ i. omega (arith, c.type_inv.text i))
    (buffers a.code.now a.table.now a.memory.now a.store.now) _ a.budget _
    (returns-in_err-sizes-clause-row c)

pub load_and_run-requires : goal.load_and_run-requires
load_and_run-requires c = compile_room _ _ c.compile.ensures (ap sizes_answer c.in_ok-sizes.was)

pub returns-clause-row : goal.returns-clause-row
unfolding Rows.fit
returns-clause-row c =
    let a = c.args in
    goes_on (λ (l : Compiled). buffers l.code l.table a.memory.now a.store.now) _ c.compile.ensures
    (ap sizes_answer c.in_ok-sizes.was) c.load_and_run.ensures

pub returns-clause-of_accepted : goal.returns-clause-of_accepted
returns-clause-of_accepted c =
    let a = c.args in
    demanded a.text.now (λ i. omega (arith, c.type_inv.text i))
    (buffers a.code.now a.table.now a.memory.now a.store.now) _ a.budget _
    (returns-clause-row c)
