-- The records of a valid command are plain: 32-bit numbers, variables below 64, and jumps over no more records than
-- there are, by going through the command. So each variable that they name has its address in the table.
use mathlib.Core.Path.{◌≡◌, sym, subst}
use Prim.Native.Nat.{ℕ, zero, suc, ◌+◌, ◌≤◌, ◌<◌}
use native.Mathlib.Nat.{le_refl}
use native.Mathlib.Omega.{arith}
use mathlib.Core.Bool.{Bool, true, false, not, beq}
use mathlib.Core.List.{[], ◌∷◌, ◌++◌}
use mathlib.Core.Option.{some, some-injective}
use lib.IntN.{pos}
use lib.ListN.{length, get_or, get_elem?}
use lib.Signed.{mag}
use mir.Syntax.{w32}
use mir.Val.{SFits}
use mir.Facts.{sfits_widen}
use Rattle.std.specs.Prelude.{if◌then◌else◌}
use Rattle.text.specs.Syntax.{four_bytes, one_byte}
use Rattle.text.specs.Syntax.{Expression, Constant, Plus, Condition, Bc, Not, And, Less, Command, SKIP, ◌:=◌, ◌⨾◌}
use Rattle.text.specs.Syntax.{IF◌THEN◌ELSE◌, WHILE◌DO◌}
use Rattle.text.specs.Encoding.{ValidExpression, ValidCondition, Valid}
use Rattle.text.specs.Sizes.{condition_records, records}
use Rattle.record.specs.Records.{Record, LOADI, LOAD, ADD, STORE, JMP, JMPLESS, JMPGE, AssemblyCode, named}
use Rattle.record.specs.declared.Variable.{Variable}
use Rattle.compile.specs.Compilation.{acomp, bcomp, ccomp}
use Rattle.compile.specs.Table.{vars, addr_of, table}
use Rattle.compile.proofs.Entries.{none_some, table_at, named_address}
use Rattle.compile.proofs.Sizes.{condition_count, record_count}

-- A record with a 32-bit number or a variable below 64, or a jump by at most `most` either way
abbrev pub Plain : ℕ → Record Variable → Type 0
Plain most (LOADI z) = SFits w32 z
Plain most (LOAD v) = v.0 < 64
Plain most ADD = Unit {0}
Plain most (STORE v) = v.0 < 64
Plain most (JMP i) = mag i ≤ most
Plain most (JMPLESS i) = mag i ≤ most
Plain most (JMPGE i) = mag i ≤ most

abbrev pub AllPlain : ℕ → AssemblyCode → Type 0
AllPlain most [] = Unit {0}
AllPlain most (r ∷ P) = Plain most r × AllPlain most P

plain_at : (most : ℕ) (P : AssemblyCode) → AllPlain most P → (p : ℕ) (r : Record Variable) → get_elem? P p ≡ some r
    → Plain most r
plain_at most [] h p r e = none_some r e
plain_at most (q ∷ P) h zero r e = subst (Plain most) (some-injective q r e) h.0
plain_at most (q ∷ P) h (suc p) r e = plain_at most P h.1 p r e

module _ (most : ℕ) where
  append : (P Q : AssemblyCode) → AllPlain most P → AllPlain most Q → AllPlain most (P ++ Q)
  append [] Q h k = k
  append (r ∷ P) Q h k = (h.0, append P Q h.1 k)

  plain_expression : (a : Expression) → ValidExpression a → AllPlain most (acomp a)
  unfolding ValidExpression acomp
  plain_expression (Constant four_bytes z) h = (h, tt)
  plain_expression (Constant one_byte z) h = (sfits_widen tt h, tt)
  plain_expression (Expression.Variable v) h = (h, tt)
  plain_expression (Plus a b) h =
      append (acomp a) _ (plain_expression a h.0) (append (acomp b) _ (plain_expression b h.1) (tt, tt))

  plain_truth : (t : Bool) (i : ℕ) → i ≤ most → AllPlain most (if t then JMP (pos i) ∷ [] else [])
  plain_truth true i l = (l, tt)
  plain_truth false i l = tt

  plain_compare : (flag : Bool) (i : ℕ) → i ≤ most → Plain most (if flag then JMPLESS (pos i) else JMPGE (pos i))
  plain_compare true i l = l
  plain_compare false i l = l

  -- A condition jumps from one of its records to i records after the last.
  plain_condition : (b : Condition) (flag : Bool) (i : ℕ) → ValidCondition b → i + condition_records b flag ≤ most
      → AllPlain most (bcomp b flag (pos i))
  unfolding ValidCondition bcomp condition_records
  plain_condition (Bc v) flag i h l = plain_truth (beq v flag) i (omega arith)
  plain_condition (Not b) flag i h l = plain_condition b (not flag) i h l
  plain_condition (And b c) true i h l =
      append (bcomp b false _) _
      (plain_condition b false _ h.0 (omega (arith, condition_count c true (pos i))))
      (plain_condition c true i h.1 (omega arith))
  plain_condition (And b c) false i h l =
      append (bcomp b false _) _
      (plain_condition b false _ h.0 (omega (arith, condition_count c false (pos i))))
      (plain_condition c false i h.1 (omega arith))
  plain_condition (Less a b) flag i h l =
      append (acomp a) _ (plain_expression a h.0)
      (append (acomp b) _ (plain_expression b h.1) (plain_compare flag i (omega arith), tt))

  -- A command jumps over no more records than it has.
  pub plain : (c : Command) → Valid c → records c ≤ most → AllPlain most (ccomp c)
  unfolding Valid ccomp records
  plain SKIP h l = tt
  plain (v := a) h l = append (acomp a) _ (plain_expression a h.1) (h.0, tt)
  plain (c ⨾ d) h l = append (ccomp c) _ (plain c h.0 (omega arith)) (plain d h.1 (omega arith))
  plain (IF b THEN c ELSE d) h l =
      append (bcomp b false _) _ (plain_condition b false _ h.0 (omega (arith, record_count c)))
      (append (ccomp c) _ (plain c h.1 (omega arith))
      (omega (arith, record_count d), plain d h.2 (omega arith)))
  plain (WHILE b DO c) h l =
      append (bcomp b false _) _ (plain_condition b false _ h.0 (omega (arith, record_count c)))
      (append (ccomp c) _ (plain c h.1 (omega arith))
      (omega (arith, record_count c, condition_count b false (pos (suc (length (ccomp c))))), tt))

-- So its records are plain.
pub plain_command : (c : Command) → Valid c → AllPlain (records c) (ccomp c)
plain_command c h = plain (records c) c h (le_refl _)

-- What a plain record names is below 64.
pub plain_named : (most : ℕ) (r : Record Variable) (v : Variable) → Plain most r → named r ≡ some v → v.0 < 64
plain_named most (LOADI z) v h e = none_some v e
plain_named most (LOAD x) v h e = subst (λ (u : Variable). u.0 < 64) (some-injective x v e) h
plain_named most ADD v h e = none_some v e
plain_named most (STORE x) v h e = subst (λ (u : Variable). u.0 < 64) (some-injective x v e) h
plain_named most (JMP i) v h e = none_some v e
plain_named most (JMPLESS i) v h e = none_some v e
plain_named most (JMPGE i) v h e = none_some v e

-- A variable that a record of a command names is below 64 and has its address in the table.
pub placed : (c : Command) → Valid c → (p : ℕ) (v : Variable) (r : Record Variable)
    → get_elem? (ccomp c) p ≡ some r → named r ≡ some v
    → (v.0 < 64)
    × (0 < get_or (table (ccomp c)) v.0 0)
    × (addr_of (vars (ccomp c)) v.0 ≡ get_or (table (ccomp c)) v.0 0)
placed c h p v r e f = (small, omega (arith, named_address (ccomp c) p v r e f, same), sym same)
  where
    small : v.0 < 64
    small = plain_named (records c) r v (plain_at (records c) (ccomp c) (plain_command c h) p r e) f

    same : get_or (table (ccomp c)) v.0 0 ≡ addr_of (vars (ccomp c)) v.0
    same = table_at (ccomp c) v.0 small
