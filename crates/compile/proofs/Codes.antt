-- The assembly and the machine code of a command can be written as bytes (Claims: Codes): plain records can, and where
-- records are renamed, it is enough that the new names are names of the kind. A named variable's address is 1 to n.
use mathlib.Core.Path.{◌≡◌, refl, ap₂}
use Prim.Native.Nat.{ℕ, suc, ◌≤◌}
use native.Mathlib.Omega.{arith}
use mathlib.Core.Bool.{◌&&◌}
use mathlib.Core.List.{[], ◌∷◌, map}
use mathlib.Core.Option.{some}
use lib.IntN.{ℤ}
use lib.ListN.{get_elem?}
use lib.Signed.{mag}
use mir.Syntax.{w32}
use mir.Val.{SFits}
use borrow.Author.Tests.{le-leb}
use Rattle.text.specs.Syntax.{Command}
use Rattle.text.specs.Encoding.{Valid}
use Rattle.text.specs.Sizes.{cells}
use Rattle.text.proofs.Limits.{few}
use Rattle.record.specs.Records.{Record, LOADI, LOAD, ADD, STORE, JMP, JMPLESS, JMPGE, AssemblyCode, named, rename}
use Rattle.record.specs.Records.{address}
use Rattle.record.specs.Bytes.{Kind, assembly_kind, machine_kind}
use Rattle.record.specs.Claims.{NameFits, RecordFits, CodeFits}
use Rattle.record.specs.declared.Variable.{Variable}
use Rattle.compile.specs.Claims.{Codes}
use Rattle.compile.specs.Compilation.{ccomp}
use Rattle.compile.specs.Table.{vars, addr_of}
use Rattle.compile.proofs.Entries.{table_small}
use Rattle.compile.proofs.Naming.{Plain, AllPlain, plain, placed}
use Rattle.compile.proofs.Tables.{named_variables}

-- A jump by at most 4,096 is a 32-bit number.
jump_fits : (i : ℤ) → mag i ≤ 4096 → SFits w32 i
jump_fits i h = record { sfits = omega arith }

variable_fits : (v : Variable) → v.0 ≤ 63 → NameFits assembly_kind v
variable_fits v h = (le-leb v.0 63 h, omega arith)

-- Plain records can be written as assembly,
plain_fits : (r : Record Variable) → Plain 4096 r → RecordFits assembly_kind r
plain_fits (LOADI z) h = h
plain_fits (LOAD v) h = variable_fits v (omega arith)
plain_fits ADD h = tt
plain_fits (STORE v) h = variable_fits v (omega arith)
plain_fits (JMP i) h = jump_fits i h
plain_fits (JMPLESS i) h = jump_fits i h
plain_fits (JMPGE i) h = jump_fits i h

all_fit : (P : AssemblyCode) → AllPlain 4096 P → CodeFits assembly_kind P
all_fit [] h = tt
all_fit (r ∷ P) h = (plain_fits r h.0, all_fit P h.1)

module _ {Name : Type 0} (k : Kind Name) (new : Variable → Name) where
  -- and renamed, where the new names are names of the kind.
  renamed_fits : (r : Record Variable) → RecordFits assembly_kind r
      → ((v : Variable) → named r ≡ some v → NameFits k (new v)) → RecordFits k (rename new r)
  unfolding rename
  renamed_fits (LOADI z) h f = h
  renamed_fits (LOAD v) h f = f v refl
  renamed_fits ADD h f = tt
  renamed_fits (STORE v) h f = f v refl
  renamed_fits (JMP i) h f = h
  renamed_fits (JMPLESS i) h f = h
  renamed_fits (JMPGE i) h f = h

  all_renamed_fit : (P : AssemblyCode) → CodeFits assembly_kind P
      → ((p : ℕ) (v : Variable) (r : Record Variable) → get_elem? P p ≡ some r → named r ≡ some v → NameFits k (new v))
      → CodeFits k (map (rename new) P)
  all_renamed_fit [] h f = tt
  all_renamed_fit (r ∷ P) h f =
      (renamed_fits r h.0 (λ v e. f 0 v r refl e), all_renamed_fit P h.1 (λ p. f (suc p)))

-- The address of a named variable is 1 to n.
address_fits : (c : Command) → Valid c → (p : ℕ) (v : Variable) (r : Record Variable)
    → get_elem? (ccomp c) p ≡ some r → named r ≡ some v
    → NameFits (machine_kind (cells c)) (address (addr_of (vars (ccomp c)) v.0))
address_fits c h p v r e f =
    let a = addr_of (vars (ccomp c)) v.0 in
    let n = named_variables c h in
    let x = placed c h p v r e f in
    let most : a ≤ cells c = omega (arith, table_small (ccomp c) v.0) in
    (ap₂ ◌&&◌ (le-leb 1 a (omega arith)) (le-leb a (cells c) most), omega (arith, few c))

pub codes : Codes
codes c h l =
    let in_assembly = all_fit (ccomp c) (plain 4096 c h l) in
    record {
      in_assembly = in_assembly;
      in_machine = all_renamed_fit (machine_kind (cells c)) _ (ccomp c) in_assembly (address_fits c h);
    }
