-- A command as the bytes of a text, and the limits of texts (document 01, "Profile text"; document 02, W1).
use Rattle.std.specs.Prelude.{ℕ, suc, ◌<◌, ◌≤◌, max, List, [], ◌∷◌, ◌++◌, length, get_or, if◌then◌else◌}
use Rattle.std.specs.Int.{w8, w32}
use Rattle.std.proofs.Common.{SFits}
use Rattle.word.specs.Numbers.{bytes_of, byte_of}
use Rattle.text.specs.Syntax.{four_bytes, one_byte}
use Rattle.text.specs.Syntax.{Expression, Constant, Variable, Plus, Condition, Bc, Not, And, Less, Command}
use Rattle.text.specs.Syntax.{SKIP, ◌:=◌, ◌⨾◌, IF◌THEN◌ELSE◌, WHILE◌DO◌}

-- ---- Bytes

-- "Expressions: 10 and four bytes, a constant; 11 v, a variable; 12 a a, Plus", and "expression byte 13 with one signed
-- byte as its operand"
unfoldable pub expression_bytes : Expression → List ℕ
expression_bytes (Constant four_bytes z) = 0x10 ∷ bytes_of z
expression_bytes (Constant one_byte z) = 0x13 ∷ byte_of z ∷ []
expression_bytes (Variable v) = 0x11 ∷ v ∷ []
expression_bytes (Plus a b) = 0x12 ∷ (expression_bytes a ++ expression_bytes b)

-- "Conditions: 20 and a byte 0 or 1, Bc (false, true); 21 b, Not; 22 b b, And; 23 a a, Less"
unfoldable pub condition_bytes : Condition → List ℕ
condition_bytes (Bc v) = 0x20 ∷ (if v then 1 else 0) ∷ []
condition_bytes (Not b) = 0x21 ∷ condition_bytes b
condition_bytes (And b c) = 0x22 ∷ (condition_bytes b ++ condition_bytes c)
condition_bytes (Less a b) = 0x23 ∷ (expression_bytes a ++ expression_bytes b)

-- "00 SKIP; 01 v, expression: assign; 02 c c: sequence; 03 b c c: IF, then, else; 04 b c: WHILE"
unfoldable pub command_bytes : Command → List ℕ
command_bytes SKIP = 0x00 ∷ []
command_bytes (v := a) = 0x01 ∷ v ∷ expression_bytes a
command_bytes (c ⨾ d) = 0x02 ∷ (command_bytes c ++ command_bytes d)
command_bytes (IF b THEN c ELSE d) = 0x03 ∷ (condition_bytes b ++ (command_bytes c ++ command_bytes d))
command_bytes (WHILE b DO c) = 0x04 ∷ (condition_bytes b ++ command_bytes c)

-- ---- Limits

-- A text is made of bytes
abbrev pub Bytes : List ℕ → Type 0
Bytes text = (i : ℕ) → get_or text i 0 < 256

-- "v one byte 0 to 63. Constants are signed 32-bit", and those of one signed byte from −128 to 127
unfoldable pub ValidExpression : Expression → Type 0
ValidExpression (Constant four_bytes z) = SFits w32 z
ValidExpression (Constant one_byte z) = SFits w8 z
ValidExpression (Variable v) = v < 64
ValidExpression (Plus a b) = ValidExpression a × ValidExpression b

unfoldable pub ValidCondition : Condition → Type 0
ValidCondition (Bc v) = Unit {0}
ValidCondition (Not b) = ValidCondition b
ValidCondition (And b c) = ValidCondition b × ValidCondition c
ValidCondition (Less a b) = ValidExpression a × ValidExpression b

unfoldable pub Valid : Command → Type 0
Valid SKIP = Unit {0}
Valid (v := a) = (v < 64) × ValidExpression a
Valid (c ⨾ d) = Valid c × Valid d
Valid (IF b THEN c ELSE d) = ValidCondition b × Valid c × Valid d
Valid (WHILE b DO c) = ValidCondition b × Valid c

-- "The root has nesting 1 and each part one more than its parent": the most nesting in a command
unfoldable pub expression_nesting : Expression → ℕ
expression_nesting (Constant w z) = 1
expression_nesting (Variable v) = 1
expression_nesting (Plus a b) = suc (max (expression_nesting a) (expression_nesting b))

unfoldable pub condition_nesting : Condition → ℕ
condition_nesting (Bc v) = 1
condition_nesting (Not b) = suc (condition_nesting b)
condition_nesting (And b c) = suc (max (condition_nesting b) (condition_nesting c))
condition_nesting (Less a b) = suc (max (expression_nesting a) (expression_nesting b))

unfoldable pub nesting : Command → ℕ
nesting SKIP = 1
nesting (v := a) = suc (expression_nesting a)
nesting (c ⨾ d) = suc (max (nesting c) (nesting d))
nesting (IF b THEN c ELSE d) = suc (max (condition_nesting b) (max (nesting c) (nesting d)))
nesting (WHILE b DO c) = suc (max (condition_nesting b) (nesting c))

-- A command within the limits of texts
pub record Within (c : Command) : Type 0 where
  pub valid : Valid c
  pub nested : nesting c ≤ 64
  pub short : length (command_bytes c) ≤ 4096
