-- Machine code with its table goes back to the same assembly, for the definitions and for the calls (Claims: Back,
-- GoesBack): entries that are not 0 are distinct, so the variable whose entry is a named variable's address is that
-- variable.
use mathlib.Core.Path.{◌≡◌, refl, sym, ◌∙◌, ap, ap₂}
use Prim.Native.Nat.{ℕ, zero, suc, ◌+◌, ◌*◌, ◌≤◌, ◌<◌}
use native.Mathlib.Nat.{zero-add, add-zero, suc-add, add-suc}
use native.Mathlib.Omega.{arith}
use mathlib.Core.List.{List, [], ◌∷◌, map}
use mathlib.Core.Option.{some}
use lib.ListN.{length, get_or, get_elem?}
use borrow.Author.Tests.{eq-eqb, ne_eqb}
use Rattle.base.specs.Answers.{gives}
use Rattle.text.specs.Syntax.{Command}
use Rattle.text.specs.Encoding.{Valid}
use Rattle.text.specs.Sizes.{records, cells}
use Rattle.record.specs.Records.{Record, LOADI, LOAD, ADD, STORE, JMP, JMPLESS, JMPGE, AssemblyCode, named, rename}
use Rattle.record.specs.Records.{MachineCode, variable, address}
use Rattle.record.specs.Bytes.{assembly_kind, machine_kind, code_bytes, over}
use Rattle.record.proofs.Written.{whole_written, written}
use Rattle.compile.specs.Calls.{machine_bytes, go_back_tests}
use Rattle.compile.specs.Claims.{Back, GoesBack}
use Rattle.compile.specs.Compilation.{ccomp}
use Rattle.compile.specs.Table.{vars, addr_of, to_m_prog, table, variable_at}
use Rattle.compile.proofs.Entries.{Distinct, table_distinct}
use Rattle.compile.proofs.Calls.{read_fits, assembled, compiled, machine_count, machine_length, taken_over}
use Rattle.compile.proofs.Calls.{go_back_gives, gone_back}
use Rattle.compile.proofs.Codes.{codes}
use Rattle.compile.proofs.Naming.{placed}
use Rattle.compile.proofs.Tables.{tables, named_variables}

-- The variable of a variable's entry is that variable.
pub variable_back : (t : List ℕ) (u v : ℕ) → Distinct t → 0 < get_or t v 0 → variable_at t u (get_or t v 0) ≡ u + v
unfolding variable_at
variable_back [] u v d l = absurd (omega arith)
variable_back (x ∷ t) u zero d l = simp (eq-eqb x x refl, add-zero)
variable_back (x ∷ t) u (suc v) d l =
    simp (ne_eqb x (get_or t v 0) (λ e. omega (arith, d (suc v) 0 l (sym e))))
    (variable_back t (suc u) v (λ v w p q. omega (arith, d (suc v) (suc w) p q)) l ∙ suc-add u v ∙ sym (add-suc u v))

-- Names that g takes back: a record renamed by f and then by g is the same record,
rename_back : {X Y : Type 0} (f : X → Y) (g : Y → X) (r : Record X) → ((v : X) → named r ≡ some v → g (f v) ≡ v)
    → rename g (rename f r) ≡ r
unfolding rename
rename_back f g (LOADI z) h = refl
rename_back f g (LOAD x) h = ap (λ v. LOAD v) (h x refl)
rename_back f g ADD h = refl
rename_back f g (STORE x) h = ap (λ v. STORE v) (h x refl)
rename_back f g (JMP i) h = refl
rename_back f g (JMPLESS i) h = refl
rename_back f g (JMPGE i) h = refl

-- and so are records.
pub map_back : {X Y : Type 0} (f : X → Y) (g : Y → X) (P : List (Record X))
    → ((p : ℕ) (v : X) (r : Record X) → get_elem? P p ≡ some r → named r ≡ some v → g (f v) ≡ v)
    → map (rename g) (map (rename f) P) ≡ P
map_back f g [] h = refl
map_back f g (r ∷ P) h = λ j. rename_back f g r (λ v e. h 0 v r refl e) j ∷ map_back f g P (λ p. h (suc p)) j

pub back : Back
back c h =
    let P = ccomp c in
    let t = table P in
    map_back (λ v. address (addr_of (vars P) v.0)) (λ a. variable (variable_at t 0 a.0)) P (λ p v r e f.
    let x = placed c h p v r e f in
    ap (λ a. variable (variable_at t 0 a)) x.2
    ∙ ap variable (variable_back t 0 v.0 (table_distinct P) x.1 ∙ zero-add v.0))

-- ---- The calls

-- go_back takes the machine code and the table of a command, and gives that machine code.
pub takes_back : (c : Command) → Valid c → records c ≤ 4096 → (out : List ℕ) → 5 * records c ≤ length out
    → go_back_tests (machine_bytes c) (table (ccomp c)) out ≡ gives (to_m_prog (ccomp c))
takes_back c h few out room =
    go_back_gives (machine_bytes c) (table (ccomp c)) out
    (whole_written (machine_kind (cells c)) Q (omega (arith, count)))
    (tables c h).long
    (tables c h).passes
    (rw (named_variables c h).in_table (written.in_machine (cells c) Q (codes c h few).in_machine))
    (omega (arith, count))
  where
    Q : MachineCode
    Q = to_m_prog (ccomp c)

    count : length Q ≡ records c
    count = machine_count c

-- What compile wrote is taken back, and the assembly is written as assemble writes it.
pub goes_back : GoesBack
goes_back text bytes c e lent long fits out room =
    let (valid, few) = read_fits text bytes e in
    rw (
      compiled text lent e long fits,
      assembled text out e room,
      taken_over (machine_bytes c) lent.code (5 * records c) (machine_length c),
    )
    (gone_back (machine_bytes c) (table (ccomp c)) out (takes_back c valid few out room)
    ∙ ap₂
    (λ (n : ℕ) (P : AssemblyCode). (gives n, over (code_bytes assembly_kind P) out))
    (machine_count c)
    (back c valid))
