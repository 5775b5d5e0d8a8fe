-- The preview: it declines by its tests, or runs the text on a copy of the store.
use Rattle.std.proofs.Common.{ap, ◌∙◌, pos, arith}
use Rattle.std.proofs.lemmas.List.{length-replicate}
use Rattle.source_run.specs.Code.{runs}
use Rattle.source_run.proofs.Whole.{preview_declines, passed, runs_preview}
use Rattle.source_run.proofs.preview_source.Goals as goal

pub returns-in-Err-clause-answer : goal.returns-in-Err-clause-answer
returns-in-Err-clause-answer c =
    let s = c.args in
    c.decline.ensures ∙ preview_declines s.text.now s.store.now s.budget c.test.ensures c.in-Err.is

pub copy_over-requires : goal.copy_over-requires
copy_over-requires c = omega (arith, (passed c.args.text.now c.args.store.now c.test.ensures c.in_default.is).long)

pub run_text-requires : goal.run_text-requires
run_text-requires c =
    let p = passed c.args.text.now c.args.store.now c.test.ensures c.in_default.is in (p.text_command, p.is)

pub returns-clause-answer : goal.returns-clause-answer
returns-clause-answer c =
    let p = passed c.args.text.now c.args.store.now c.test.ensures c.in_default.is in
    c.run_text.ensures p.text_command p.is
    ∙ ap (runs p.text_command c.args.budget)
    (c.copy_over.ensures.whole (omega (arith, p.long, length-replicate 64 (pos 0))))
    ∙ runs_preview _ _ p c.args.budget
