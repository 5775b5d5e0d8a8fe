-- Compilation (document 01, "Records"; document 001, acomp, bcomp, ccomp).
use Rattle.std.specs.Prelude.{suc, ◌+◌, Bool, false, not, [], ◌∷◌, ◌++◌, ℤ, pos, negsuc, ◌+ℤ◌, length, if◌then◌else◌}
use Rattle.std.specs.Bool.{beq}
use Rattle.text.specs.Syntax.{Expression, Constant, Variable, Plus, Condition, Bc, Not, And, Less, Command, SKIP}
use Rattle.text.specs.Syntax.{◌:=◌, ◌⨾◌, IF◌THEN◌ELSE◌, WHILE◌DO◌}
use Rattle.record.specs.Records.{AssemblyCode, LOADI, LOAD, ADD, STORE, JMP, JMPLESS, JMPGE, variable}

-- acomp leaves the value on top of the stack
unfoldable pub acomp : Expression → AssemblyCode
acomp (Constant w z) = LOADI z ∷ []
acomp (Variable v) = LOAD (variable v) ∷ []
acomp (Plus a b) = acomp a ++ (acomp b ++ (ADD ∷ []))

-- bcomp jumps by i if the condition's value is the flag
unfoldable pub bcomp : Condition → Bool → ℤ → AssemblyCode
bcomp (Bc v) flag i = if beq v flag then JMP i ∷ [] else []
bcomp (Not b) flag i = bcomp b (not flag) i
bcomp (And b c) flag i =
    let right = bcomp c flag i in
    bcomp b false (pos (length right) +ℤ (if flag then pos 0 else i)) ++ right
bcomp (Less a b) flag i = acomp a ++ (acomp b ++ ((if flag then JMPLESS i else JMPGE i) ∷ []))

-- the condition of IF and WHILE, which jumps over the records c and the jump after them
abbrev pub test : Condition → AssemblyCode → AssemblyCode
test b c = bcomp b false (pos (suc (length c)))

-- ccomp leaves the stack as it was. A jump counts from the record after it. WHILE's jump back is 001's
-- JMP (− (size cb + size cc + 1)): negsuc k is −(k + 1)
unfoldable pub ccomp : Command → AssemblyCode
ccomp SKIP = []
ccomp (v := a) = acomp a ++ (STORE (variable v) ∷ [])
ccomp (c ⨾ d) = ccomp c ++ ccomp d
ccomp (IF b THEN c ELSE d) = test b (ccomp c) ++ (ccomp c ++ (JMP (pos (length (ccomp d))) ∷ ccomp d))
ccomp (WHILE b DO c) =
    test b (ccomp c) ++ (ccomp c ++ (JMP (negsuc (length (test b (ccomp c)) + length (ccomp c))) ∷ []))
