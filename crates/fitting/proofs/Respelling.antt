-- Two texts that differ in the spelling of constants alone (Respelling: EitherSpelling). Their commands have the same
-- sizes, records and rule, and a call looks at a command for nothing else.
use mathlib.Core.Path.{◌≡◌, refl, ap}
use Prim.Native.Nat.{ℕ, ◌*◌}
use mathlib.Core.List.{List}
use lib.Dec.{eqb, leb}
use lib.ListN.{length}
use Rattle.base.specs.Answers.{gives, and_then, settle}
use Rattle.base.proofs.Settled.{unless_same}
use Rattle.text.specs.Syntax.{Command}
use Rattle.text.specs.Reading.{read_text}
use Rattle.text.specs.Sizes.{records, sizes}
use Rattle.text.specs.Respelling.{Respelled}
use Rattle.text.specs.Calls.{read_call}
use Rattle.text.proofs.Respelling.{same_sizes}
use Rattle.source.proofs.Respelling.{run_same, preview_same}
use Rattle.record.specs.Bytes.{assembly_kind, machine_kind, code_bytes, over}
use Rattle.compile.specs.Compilation.{ccomp}
use Rattle.compile.specs.Table.{to_m_prog, table}
use Rattle.compile.specs.Calls.{assemble_tests, assemble, compile_tests, Compiled, compile}
use Rattle.compile.proofs.Respelling.{same_records}
use Rattle.fitting.specs.Rows.{Lent, fit, load_and_preview, AssemblyLent, assemble_and_run}
use Rattle.fitting.specs.Rows.{BackLent, compile_and_go_back}
use Rattle.fitting.specs.Pieces.{fit_in_pieces}
use Rattle.fitting.specs.Respelling.{EitherSpelling}

module _ (text other : List ℕ) (c d : Command) (e : read_text text ≡ gives c) (f : read_text other ≡ gives d)
    (r : Respelled c d) where
  -- ---- What is the same of the two commands

  size : sizes c ≡ sizes d
  size = same_sizes c d r

  count : records c ≡ records d
  count = ap (λ z. z.records) size

  code : ccomp c ≡ ccomp d
  code = same_records c d r

  -- ---- Each call

  read_same : read_call text ≡ read_call other
  unfolding read_call and_then
  read_same = rw (e, f) (ap gives size)

  assemble_same : (out : List ℕ) → assemble text out ≡ assemble other out
  unfolding assemble assemble_tests and_then settle
  assemble_same out =
      rw (e, f, count)
      (unless_same (leb (5 * records d) (length out)) 7 0 sizes _ out (gives c) (gives d)
      (λ i. (gives (size i), over (code_bytes assembly_kind (code i)) out)))

  compile_same : (lent : Compiled) → compile text lent ≡ compile other lent
  unfolding compile compile_tests and_then settle
  compile_same lent =
      rw (e, f, count)
      (unless_same (eqb (length lent.table) 64) 8 0 sizes _ lent _ _
      (unless_same (leb (5 * records d) (length lent.code)) 7 0 sizes _ lent (gives c) (gives d)
      (λ i. (
        gives (size i),
        record {
          code = over (code_bytes (machine_kind (size i).cells) (to_m_prog (code i))) lent.code;
          table = table (code i);
        },
      ))))

  assembly_same : (lent : AssemblyLent) (budget : ℕ)
      → assemble_and_run text lent budget ≡ assemble_and_run other lent budget
  unfolding assemble_and_run
  assembly_same lent budget = rw (assemble_same lent.code) refl

  back_same : (lent : BackLent) → compile_and_go_back text lent ≡ compile_and_go_back other lent
  unfolding compile_and_go_back
  back_same lent = rw (compile_same (record { code = lent.code; table = lent.table })) refl

  fit_same : (lent : Lent) (budget : ℕ) → fit text lent budget ≡ fit other lent budget
  unfolding fit
  fit_same lent budget = rw (compile_same (record { code = lent.code; table = lent.table })) refl

  fit_in_pieces_same : (lent : Lent) (b : ℕ) (bs : List ℕ)
      → fit_in_pieces text lent b bs ≡ fit_in_pieces other lent b bs
  unfolding fit_in_pieces
  fit_in_pieces_same lent b bs = rw (compile_same (record { code = lent.code; table = lent.table })) refl

  preview_loaded_same : (lent : Lent) (budget : ℕ) → load_and_preview text lent budget
      ≡ load_and_preview other lent budget
  unfolding load_and_preview
  preview_loaded_same lent budget = rw (compile_same (record { code = lent.code; table = lent.table })) refl

pub either_spelling : EitherSpelling
either_spelling text other c d e f r = record {
  reading = read_same text other c d e f r;
  assembling = assemble_same text other c d e f r;
  compiling = compile_same text other c d e f r;
  running = run_same text other c d e f r;
  running_assembly = assembly_same text other c d e f r;
  fitting = fit_same text other c d e f r;
  fitting_in_pieces = fit_in_pieces_same text other c d e f r;
  previewing = preview_same text other c d e f r;
  previewing_loaded = preview_loaded_same text other c d e f r;
  going_back = back_same text other c d e f r;
}
