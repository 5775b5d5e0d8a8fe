-- The text in its buffer runs as the text does (Whole), without part ends noted or with them.
use Rattle.std.proofs.Common.{◌≡◌, ℕ, List, ◌++◌, length, drop, replicate}
use Rattle.base.specs.Answers.{gives}
use Rattle.text.specs.Syntax.{Command}
use Rattle.text.specs.Reading.{read_text}
use Rattle.text.proofs.Opened.{taken}
use Rattle.source_run.specs.Code.{Laid}
use Rattle.source_run.proofs.Whole.{laid, laid_read, runs_laid}
use Rattle.source_run.proofs.run_text.Goals as goal

-- the text in its buffer, zeros before
over_zeros : {text buffer : List ℕ} {c : Command} → read_text text ≡ gives c
    → buffer ≡ text ++ drop (length text) (replicate 4096 0) → Laid text buffer
over_zeros {text} is holds = laid text (replicate 4096 0) is holds

pub copy_over-requires : goal.copy_over-requires
copy_over-requires c = (taken _ c.requires.1).short

pub run_command-requires-clause-read : goal.run_command-requires-clause-read
run_command-requires-clause-read c = laid_read (over_zeros c.requires.1 c.copy_over.ensures.over)

pub returns-then-from-text : goal.returns-then-from-text
returns-then-from-text c =
    let l = over_zeros c.requires.1 c.copy_over.ensures.over in
    runs_laid c.args.budget c.args.store.now l c.run_command.ensures

pub returns-then-text-le-SHORT_TEXT : goal.returns-then-text-le-SHORT_TEXT
returns-then-text-le-SHORT_TEXT c =
    let l = over_zeros c.requires.1 c.copy_over.ensures.over in
    runs_laid c.args.budget c.args.store.now l c.run_cached.ensures

pub returns : goal.returns
returns c =
    let l = over_zeros c.requires.1 c.copy_over.ensures.over in
    runs_laid c.args.budget c.args.store.now l c.run_cached-2.ensures
