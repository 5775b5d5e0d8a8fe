-- Assembly and machine code do what the source rules say (Simulation: Assembled, Translated): both memories are lawful.
use mathlib.Core.Path.{◌≡◌, refl, ◌∙◌, ap}
use Prim.Native.Nat.{ℕ, ◌≤◌}
use native.Mathlib.Omega.{arith}
use mathlib.Core.List.{List}
use lib.IntN.{pos}
use lib.ListN.{length, get_or, length-set}
use lib.Seq.{get_or-set_same, get_or-set_other}
use Rattle.word.specs.Sums.{SumRule, stopping}
use Rattle.text.specs.Sizes.{depth, cells}
use Rattle.source.specs.Rules.{Store, run_rules}
use Rattle.record.specs.Records.{AssemblyCode, address}
use Rattle.record.specs.declared.Variable.{Variable}
use Rattle.record.specs.declared.Address.{Address}
use Rattle.machine.specs.Machine.{fresh}
use Rattle.machine.specs.Memories.{Assembly, assembly, machine_cells}
use Rattle.machine.proofs.Renaming.{run_map}
use Rattle.compile.specs.Compilation.{ccomp}
use Rattle.compile.specs.Table.{vars, addr_of, table}
use Rattle.compile.proofs.Entries.{Distinct, table_small, table_distinct}
use Rattle.compile.proofs.Naming.{placed}
use Rattle.compile.proofs.Tables.{named_variables}
use Rattle.fitting.specs.Loading.{loaded, read_back}
use Rattle.fitting.specs.Simulation.{seen, Laws, Assembled, Translated, TranslatedStopping}
use Rattle.fitting.proofs.Loading.{addressed, cells_laws, length_loaded, back_loaded}
use Rattle.fitting.proofs.Simulation.{simulated}

assembly_laws : (D : ℕ) → Laws D assembly (λ m. m.store) (λ m. length m.stack ≡ D) (λ v. Unit {0})
assembly_laws D = record {
  load_view = λ m v G x. refl;
  save_view = λ m v z G x. refl;
  save_good = λ m v z G x. G;
  poke_view = λ m i z G l. refl;
  poke_good = λ m i z G l. length-set m.stack i z ∙ G;
  peek_poke = λ m i z G l. get_or-set_same m.stack i z (pos 0) (omega arith);
  peek_below = λ m i j z G l b. get_or-set_other m.stack i j z (pos 0) (omega arith);
}

pub assembled : (sum : SumRule) → Assembled sum
assembled sum c budget m G =
    simulated sum Assembly (depth c) assembly _ _ _ (assembly_laws (depth c)) c (record { each = λ p v r e f. tt })
    (omega arith) budget m G

pub translated : (sum : SumRule) → Translated sum
translated sum c h s e budget =
    ap (seen (read_back t D s)) (run_map sum D f (machine_cells D) P budget 0 (fresh m))
    ∙ simulated sum Store D (addressed D n t distinct small (addr_of (vars P)) s) (read_back t D s) _ _
    (cells_laws D n t distinct small (addr_of (vars P)) s) c
    (record { each = λ p v r g k. let x = placed c h p v r g k in (omega (arith, x.0), x.1, x.2) })
    (omega arith) budget m (length_loaded t D n s)
    ∙ ap (run_rules sum c budget) (back_loaded t D n s distinct small)
  where
    P : AssemblyCode
    P = ccomp c

    t : List ℕ
    t = table P

    D : ℕ
    D = depth c

    n : ℕ
    n = cells c

    f : Variable → Address
    f v = address (addr_of (vars P) v.0)

    m : Store
    m = loaded t D n s

    distinct : Distinct t
    distinct = table_distinct P

    small : (v : ℕ) → get_or t v 0 ≤ n
    small v = omega (arith, table_small P v, (named_variables c h).in_records)

pub translated_stopping : TranslatedStopping
translated_stopping = translated stopping
