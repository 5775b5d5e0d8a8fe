-- What its command came to tells what the run tells (Whole).
use Rattle.std.proofs.Common.{ap, ◌∙◌}
use Rattle.base.specs.Answers.{gives}
use Rattle.source_run.proofs.Whole.{tells}
use Rattle.source_run.proofs.run_command.Goals as goal

pub report-requires : goal.report-requires
report-requires c =
    let e = c.execute-after in (tells _ c.requires.read.is _ _ e.result _ _ _ e.ensures).few

pub returns : goal.returns
returns c = λ k n part.
    let e = c.execute-after in
    let m = e.new.store in
    ap (λ a. (gives a, m)) c.report.ensures ∙ (tells _ part _ _ e.result _ _ m e.ensures).same
