-- The call: it declines by its tests, or runs the text on a copy of the store and copies that back.
use Rattle.std.proofs.Common.{ap, ◌∙◌, pos, arith}
use Rattle.std.proofs.lemmas.List.{length-replicate}
use Rattle.std.proofs.lemmas.Result.{err_from_is_err_and}
use Rattle.base.specs.Answers.{gives}
use Rattle.base.specs.Code.{told_run}
use Rattle.source_run.specs.Code.{runs}
use Rattle.source_run.proofs.Whole.{run_declines, passed, runs_source}
use Rattle.source_run.proofs.run_source.Goals as goal

pub returns-in_err-test : goal.returns-in_err-test
returns-in_err-test c =
    let s = c.args in
    let e = err_from_is_err_and c.from_residual.result c.from_residual.ensures.1 in
    rw (e.1, e.2) (run_declines s.text.now s.store.now s.budget c.test.ensures c.in_err-test.was)

pub copy_over-requires : goal.copy_over-requires
copy_over-requires c = omega (arith, (passed c.args.text.now c.args.store.now c.test.ensures c.in_ok-test.was).long)

pub run_text-run-requires : goal.run_text-run-requires
run_text-run-requires c =
    let p = passed c.args.text.now c.args.store.now c.test.ensures c.in_ok-test.was in (p.text_command, p.is)

pub copy_over-requires-2 : goal.copy_over-requires-2
copy_over-requires-2 c =
    let p = passed c.args.text.now c.args.store.now c.test.ensures c.in_ok-test.was in
    omega (arith, p.long, c.run_text-run.array_long)

pub returns : goal.returns
returns c =
    let p = passed c.args.text.now c.args.store.now c.test.ensures c.in_ok-test.was in
    ap (λ m. (gives (told_run c.run_text-run.result), m))
    (c.copy_over-2.ensures.whole (omega (arith, p.long, c.run_text-run.array_long)))
    ∙ c.run_text-run.ensures p.text_command p.is
    ∙ ap (runs p.text_command c.args.budget)
    (c.copy_over.ensures.whole (omega (arith, p.long, length-replicate 64 (pos 0))))
    ∙ runs_source _ _ p c.args.budget
