-- Two texts that differ in the spelling of constants alone (document 02, W1): every call that takes a text, and every
-- row of calls that begins with such a call, gives the same for the one as for the other, and leaves the same in the
-- lent buffers. The same is printed for both too (print/specs/Claims: PrintedAlike). The proof of the same spelling
-- stands in proofs/.
use Rattle.std.specs.Prelude.{◌≡◌, ℕ, List}
use Rattle.base.specs.Answers.{gives}
use Rattle.text.specs.Syntax.{Command}
use Rattle.text.specs.Reading.{read_text}
use Rattle.text.specs.Respelling.{Respelled}
use Rattle.text.specs.Calls.{read_call}
use Rattle.source.specs.Rules.{Store}
use Rattle.source.specs.Calls.{run_source, preview_source}
use Rattle.compile.specs.Calls.{Compiled, assemble, compile}
use Rattle.fitting.specs.Rows.{Lent, fit, load_and_preview, AssemblyLent, assemble_and_run}
use Rattle.fitting.specs.Rows.{BackLent, compile_and_go_back}
use Rattle.fitting.specs.Pieces.{fit_in_pieces}

pub record SameAnswers (text other : List ℕ) : Type 0 where
  -- record count, D and n
  pub reading : read_call text ≡ read_call other
  -- the assembly records
  pub assembling : (out : List ℕ) → assemble text out ≡ assemble other out
  -- the machine records and the table
  pub compiling : (lent : Compiled) → compile text lent ≡ compile other lent
  -- the run of the text, of its assembly and of its machine code, in one and in pieces
  pub running : (store : Store) (budget : ℕ) → run_source text store budget ≡ run_source other store budget
  pub running_assembly : (lent : AssemblyLent) (budget : ℕ)
      → assemble_and_run text lent budget ≡ assemble_and_run other lent budget
  pub fitting : (lent : Lent) (budget : ℕ) → fit text lent budget ≡ fit other lent budget
  pub fitting_in_pieces : (lent : Lent) (b : ℕ) (bs : List ℕ)
      → fit_in_pieces text lent b bs ≡ fit_in_pieces other lent b bs
  -- the previews of the text and of its machine code
  pub previewing : (store : Store) (budget : ℕ) → preview_source text store budget ≡ preview_source other store budget
  pub previewing_loaded : (lent : Lent) (budget : ℕ)
      → load_and_preview text lent budget ≡ load_and_preview other lent budget
  -- the assembly that its machine code goes back to
  pub going_back : (lent : BackLent) → compile_and_go_back text lent ≡ compile_and_go_back other lent

-- So it is of accepted texts whose commands differ in constants' widths alone.
abbrev pub EitherSpelling : Type 0
EitherSpelling = (text other : List ℕ) (c d : Command) → read_text text ≡ gives c → read_text other ≡ gives d
    → Respelled c d → SameAnswers text other
