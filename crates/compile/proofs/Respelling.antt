-- A constant's width changes no record (Claims: SameRecords): by induction on the tree, a command in full has the
-- command's records.
use mathlib.Core.Path.{◌≡◌, refl}
use Prim.Native.Nat.{suc, ◌+◌}
use mathlib.Core.Bool.{Bool, false, not}
use mathlib.Core.List.{[], ◌∷◌, ◌++◌}
use lib.IntN.{ℤ, pos, negsuc, ◌+ℤ◌}
use lib.ListN.{length}
use Rattle.std.specs.Prelude.{if◌then◌else◌}
use Rattle.text.specs.Syntax.{Expression, Constant, Variable, Plus, Condition, Bc, Not, And, Less, Command, SKIP}
use Rattle.text.specs.Syntax.{◌:=◌, ◌⨾◌, IF◌THEN◌ELSE◌, WHILE◌DO◌}
use Rattle.text.specs.Respelling.{expression_in_full, condition_in_full, in_full}
use Rattle.text.proofs.Respelling.{of_both}
use Rattle.record.specs.Records.{AssemblyCode, ADD, STORE, JMP, JMPLESS, JMPGE, variable}
use Rattle.compile.specs.Compilation.{acomp, bcomp, test, ccomp}
use Rattle.compile.specs.Claims.{SameRecords}

acomp_in_full : (a : Expression) → acomp (expression_in_full a) ≡ acomp a
unfolding expression_in_full acomp
acomp_in_full (Constant w z) = refl
acomp_in_full (Variable v) = refl
acomp_in_full (Plus a b) = λ i. acomp_in_full a i ++ (acomp_in_full b i ++ (ADD ∷ []))

bcomp_in_full : (b : Condition) (flag : Bool) (j : ℤ) → bcomp (condition_in_full b) flag j ≡ bcomp b flag j
unfolding condition_in_full bcomp
bcomp_in_full (Bc v) flag j = refl
bcomp_in_full (Not b) flag j = bcomp_in_full b (not flag) j
bcomp_in_full (And b c) flag j = λ i.
    let right : AssemblyCode = bcomp_in_full c flag j i in
    bcomp_in_full b false (pos (length right) +ℤ (if flag then pos 0 else j)) i ++ right
bcomp_in_full (Less a b) flag j = λ i.
    acomp_in_full a i ++ (acomp_in_full b i ++ ((if flag then JMPLESS j else JMPGE j) ∷ []))

-- the condition of IF and WHILE, and the records that it jumps over
test_in_full : (b : Condition) {P Q : AssemblyCode} → P ≡ Q → test (condition_in_full b) P ≡ test b Q
test_in_full b e = λ i. bcomp_in_full b false (pos (suc (length (e i)))) i

ccomp_in_full : (c : Command) → ccomp (in_full c) ≡ ccomp c
unfolding in_full ccomp
ccomp_in_full SKIP = refl
ccomp_in_full (v := a) = λ i. acomp_in_full a i ++ (STORE (variable v) ∷ [])
ccomp_in_full (c ⨾ d) = λ i. ccomp_in_full c i ++ ccomp_in_full d i
ccomp_in_full (IF b THEN c ELSE d) = λ i.
    let first : AssemblyCode = ccomp_in_full c i in
    let second : AssemblyCode = ccomp_in_full d i in
    test_in_full b (ccomp_in_full c) i ++ (first ++ (JMP (pos (length second)) ∷ second))
ccomp_in_full (WHILE b DO c) = λ i.
    let body : AssemblyCode = ccomp_in_full c i in
    let condition : AssemblyCode = test_in_full b (ccomp_in_full c) i in
    condition ++ (body ++ (JMP (negsuc (length condition + length body)) ∷ []))

pub same_records : SameRecords
same_records = of_both ccomp ccomp_in_full
