-- Two calls in a row, of an accepted text and buffers with room: what the row is, and what the claims then say of it.
use mathlib.Core.Path.{◌≡◌, refl, sym, ◌∙◌, ap}
use Prim.Native.Nat.{ℕ, ◌*◌, ◌≤◌}
use mathlib.Core.List.{List}
use lib.ListN.{length, take}
use Rattle.base.specs.Answers.{Answer, gives}
use Rattle.base.specs.Ends.{Ran}
use Rattle.base.proofs.Rows.{goes_on, is_last}
use Rattle.text.specs.Syntax.{Command}
use Rattle.text.specs.Reading.{read_text}
use Rattle.text.specs.Encoding.{Bytes}
use Rattle.text.specs.Sizes.{records, depth, sizes}
use Rattle.text.specs.declared.Sizes.{Sizes}
use Rattle.source.specs.Calls.{run_source}
use Rattle.record.specs.Bytes.{assembly_kind, code_bytes, over}
use Rattle.machine.specs.Memories.{Assembly}
use Rattle.machine.specs.Calls.{run_assembly}
use Rattle.compile.specs.Compilation.{ccomp}
use Rattle.compile.specs.Calls.{assemble, Compiled, compile, go_back}
use Rattle.compile.proofs.Calls.{assembled, compiled, taken_over, assembly_length}
use Rattle.compile.proofs.GoingBack.{goes_back}
use Rattle.fitting.specs.Rows.{AssemblyLent, assembly_buffers, assemble_and_run}
use Rattle.fitting.specs.Rows.{BackLent, back_buffers, compile_and_go_back}
use Rattle.fitting.proofs.Demand3.{assembly_fitted}

-- ---- Assembling, and then running

-- an accepted text's assembly runs as the text does
pub same_run : (text : List ℕ) → Bytes text → (l l' : AssemblyLent) (budget : ℕ) (x : Answer Ran)
    → (x, l') ≡ assemble_and_run text l budget
    → (c : Command) → read_text text ≡ gives c → 5 * records c ≤ length l.code
    → length l.memory.stack ≡ depth c → length l.memory.store ≡ 64
    → run_source text l.memory.store budget ≡ (x, l'.memory.store)
unfolding assemble_and_run
same_run text bytes l l' budget x e c read room deep long =
    assembly_fitted text bytes c read m deep long budget
    ∙ ap (λ (code : List ℕ). ((run_assembly code m budget).0, (run_assembly code m budget).1.store))
    (sym (taken_over (code_bytes assembly_kind (ccomp c)) l.code (5 * records c) (assembly_length c)))
    ∙ ap (λ (r : Answer Ran × AssemblyLent). (r.0, r.1.memory.store)) (sym (e ∙ row))
  where
    m : Assembly
    m = l.memory

    written : List ℕ
    written = over (code_bytes assembly_kind (ccomp c)) l.code

    ran : Answer Ran × Assembly
    ran = run_assembly (take (5 * records c) written) m budget

    row : assemble_and_run text l budget ≡ (ran.0, assembly_buffers written ran.1)
    row =
        sym (goes_on (λ code. assembly_buffers code m) _ (sym (assembled text l.code read room)) refl
        (is_last (assembly_buffers written) {R = ran} refl))

-- ---- Compiling, and then going back

-- an accepted text's machine code goes back to what assemble writes
pub same_assembly : (text : List ℕ) → Bytes text → (l l' : BackLent) (x : Answer ℕ)
    → (x, l') ≡ compile_and_go_back text l
    → (c : Command) → read_text text ≡ gives c → length l.table ≡ 64 → 5 * records c ≤ length l.code
    → 5 * records c ≤ length l.out
    → ◌≡◌ {A = Answer ℕ × List ℕ} (x, l'.out) (gives (records c), (assemble text l.out).1)
unfolding compile_and_go_back
same_assembly text bytes l l' x e c read long room enough =
    ap (λ (r : Answer ℕ × BackLent). (r.0, r.1.out)) (e ∙ row)
    ∙ goes_back text bytes c read first long room l.out enough
  where
    first : Compiled
    first = record { code = l.code; table = l.table }

    left : Compiled
    left = (compile text first).1

    back : Answer ℕ × List ℕ
    back = go_back (take (5 * records c) left.code) left.table l.out

    given : (compile text first).0 ≡ gives (sizes c)
    given = ap (λ (r : Answer Sizes × Compiled). r.0) (compiled text first read long room)

    row : compile_and_go_back text l ≡ (back.0, back_buffers left.code left.table back.1)
    row =
        sym (goes_on (λ (k : Compiled). back_buffers k.code k.table l.out) _
        {R = compile text first} refl given
        (is_last (back_buffers left.code left.table) {R = back} refl))
