-- The records of a command are as many as reading says (Claims: RecordCount), by going through the command. How many
-- records a condition has does not depend on how far it jumps.
use mathlib.Core.Path.{◌≡◌, refl}
use native.Mathlib.Omega.{arith}
use mathlib.Core.Bool.{Bool, true, false, not, beq}
use mathlib.Core.List.{[], ◌∷◌}
use lib.IntN.{ℤ}
use lib.ListN.{length, length-append}
use Rattle.std.specs.Prelude.{if◌then◌else◌}
use Rattle.text.specs.Sizes.{expression_records, condition_records, records}
use Rattle.text.specs.Syntax.{Expression, Constant, Variable, Plus, Condition, Bc, Not, And, Less, SKIP, ◌:=◌, ◌⨾◌}
use Rattle.text.specs.Syntax.{IF◌THEN◌ELSE◌, WHILE◌DO◌}
use Rattle.record.specs.Records.{AssemblyCode, JMP}
use Rattle.compile.specs.Claims.{RecordCount}
use Rattle.compile.specs.Compilation.{acomp, bcomp, ccomp}

pub expression_count : (a : Expression) → length (acomp a) ≡ expression_records a
unfolding acomp expression_records
expression_count (Constant w z) = refl
expression_count (Variable v) = refl
expression_count (Plus a b) = simp (length-append, expression_count a, expression_count b) (omega arith)

-- Under a test there are P's records or none.
one_or_none : (t : Bool) (P : AssemblyCode) → length (if t then P else []) ≡ (if t then length P else 0)
one_or_none true P = refl
one_or_none false P = refl

pub condition_count : (b : Condition) (flag : Bool) (i : ℤ) → length (bcomp b flag i) ≡ condition_records b flag
unfolding bcomp condition_records
condition_count (Bc v) flag i = one_or_none (beq v flag) (JMP i ∷ [])
condition_count (Not b) flag i = condition_count b (not flag) i
condition_count (And b c) flag i = simp (length-append, condition_count b false, condition_count c flag)
condition_count (Less a b) flag i = simp (length-append, expression_count a, expression_count b) (omega arith)

pub record_count : RecordCount
unfolding ccomp records
record_count SKIP = refl
record_count (v := a) = simp (length-append, expression_count a)
record_count (c ⨾ d) = simp (length-append, record_count c, record_count d)
record_count (IF b THEN c ELSE d) =
    simp (length-append, condition_count b false, record_count c, record_count d) (omega arith)
record_count (WHILE b DO c) = simp (length-append, condition_count b false, record_count c) (omega arith)
