-- What is printed for a text depends on its sizes, its records and its run, and these are the same in either spelling
-- of constants (Claims: PrintedAlike).
use mathlib.Core.Path.{◌≡◌}
use mathlib.Core.List.{◌++◌}
use Rattle.text.specs.Sizes.{sizes}
use Rattle.text.proofs.Respelling.{same_sizes}
use Rattle.source.specs.Calls.{run_source}
use Rattle.source.specs.Cases.{zeros}
use Rattle.source.proofs.Respelling.{run_same}
use Rattle.compile.specs.Compilation.{ccomp}
use Rattle.compile.specs.Table.{to_m_prog, table}
use Rattle.compile.proofs.Respelling.{same_records}
use Rattle.print.specs.Printing.{first_line, record_lines, run_lines, answer_lines}
use Rattle.print.specs.Claims.{PrintedAlike}

pub printed_alike : PrintedAlike
unfolding answer_lines
printed_alike text other c d e f r =
    rw (e, f) (λ i.
    first_line (size i) ++ (record_lines 0 (code i) (to_m_prog (code i)) ++ run_lines (table (code i)) (run i)))
  where
    size : sizes c ≡ sizes d
    size = same_sizes c d r

    code : ccomp c ≡ ccomp d
    code = same_records c d r

    run : run_source text zeros 1000000 ≡ run_source other zeros 1000000
    run = run_same text other c d e f r zeros 1000000
