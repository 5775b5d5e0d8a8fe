-- Reading a profile text (document 01, "Profile text" and "When a call declines"; document 02, W1).
-- "Reading goes left to right; at a construct 1, 4, 2, then its operand 1, 3; at the end 5."
use Rattle.std.specs.Prelude.{ℕ, zero, suc, ◌+◌, List, leb, eqb, ℤ, length, get_or, if◌then◌else◌}
use Rattle.base.specs.Acts.{Outcome, ok, ended, Act, ◌>>=◌, ◌>>◌, give}
use Rattle.base.specs.Answers.{Answer, gives, refused, Refusal, refusal, unless◌refuse◌at◌else◌}
use Rattle.word.specs.Numbers.{number_at, byte_number}
use Rattle.text.specs.Syntax.{Width, four_bytes, one_byte, bytes_in}
use Rattle.text.specs.Syntax.{Expression, Constant, Variable, Plus, Condition, Bc, Not, And, Less, Command}
use Rattle.text.specs.Syntax.{SKIP, ◌:=◌, ◌⨾◌, IF◌THEN◌ELSE◌, WHILE◌DO◌}

-- A reader goes on from a position of the text, or ends with a refusal
abbrev pub Reader : Type 0 → Type 0
Reader A = Act ℕ Refusal A

-- ---- What a byte begins

pub data ExpressionByte : Type 0 where
  constant : Width → ExpressionByte
  variable plus no_expression : ExpressionByte

unfoldable pub expression_byte : ℕ → ExpressionByte
expression_byte b =
    if eqb b 0x10 then constant four_bytes else
    if eqb b 0x11 then variable else
    if eqb b 0x12 then plus else
    if eqb b 0x13 then constant one_byte else no_expression

pub data ConditionByte : Type 0 where
  truth negation conjunction comparison no_condition : ConditionByte

unfoldable pub condition_byte : ℕ → ConditionByte
condition_byte b =
    if eqb b 0x20 then truth else
    if eqb b 0x21 then negation else
    if eqb b 0x22 then conjunction else
    if eqb b 0x23 then comparison else no_condition

pub data CommandByte : Type 0 where
  skip assignment sequence choice loop no_command : CommandByte

unfoldable pub command_byte : ℕ → CommandByte
command_byte b =
    if eqb b 0x00 then skip else
    if eqb b 0x01 then assignment else
    if eqb b 0x02 then sequence else
    if eqb b 0x03 then choice else
    if eqb b 0x04 then loop else no_command

-- ---- Reading at a position of a text

-- The number that a constant's operand is, from a position on
abbrev pub operand_number : Width → List ℕ → ℕ → ℤ
operand_number four_bytes text i = number_at text i
operand_number one_byte text i = byte_number (get_or text i 0)

module _ (text : List ℕ) where
  -- a refusal whose place is the position
  unfoldable pub decline : {A : Type 0} → ℕ → Reader A
  decline number i = ended (refusal number i)

  -- `n` bytes are there; else "text ends too early", at "the text's length"
  unfoldable pub there : ℕ → Reader (Unit {0})
  there n i = if leb (i + n) (length text) then ok tt i else ended (refusal 1 (length text))

  -- the byte due
  unfoldable pub due : Reader ℕ
  due i = ok (get_or text i 0) i

  -- on by n bytes
  unfoldable pub pass : ℕ → Reader (Unit {0})
  pass n i = ok tt (i + n)

  -- an operand of one byte: v is at most 63, Bc's byte at most 1
  unfoldable pub operand : ℕ → Reader ℕ
  operand most = do there 1; b ← due; if leb b most then (do pass 1; give b) else decline 3

  -- a constant's operand, of its width
  unfoldable pub number_due : Width → Reader ℤ
  number_due w i = ok (operand_number w text i) (i + bytes_in w)

  unfoldable pub number : Width → Reader ℤ
  number w = do there (bytes_in w); number_due w

  -- "10 and four bytes, a constant; 11 v, a variable; 12 a a, Plus", and "13 with one signed byte as its operand": an
  -- expression whose parts are read by `a`. "A constant's reading now reports its width as well"
  unfoldable pub expression_of : Reader Expression → ExpressionByte → Reader Expression
  expression_of a (constant w) = do pass 1; z ← number w; give (Constant w z)
  expression_of a variable = do pass 1; v ← operand 63; give (Variable v)
  expression_of a plus = do pass 1; x ← a; y ← a; give (Plus x y)
  expression_of a no_expression = decline 2

  -- with the nesting left: where none is left, the construct is at nesting 65
  unfoldable pub expression : ℕ → Reader Expression
  expression zero = do there 1; decline 4
  expression (suc nest) = do there 1; b ← due; expression_of (expression nest) (expression_byte b)

  -- "20 and a byte 0 or 1, Bc (false, true); 21 b, Not; 22 b b, And; 23 a a, Less"
  unfoldable pub condition_of : Reader Expression → Reader Condition → ConditionByte → Reader Condition
  condition_of a b truth = do pass 1; v ← operand 1; give (Bc (eqb v 1))
  condition_of a b negation = do pass 1; x ← b; give (Not x)
  condition_of a b conjunction = do pass 1; x ← b; y ← b; give (And x y)
  condition_of a b comparison = do pass 1; x ← a; y ← a; give (Less x y)
  condition_of a b no_condition = decline 2

  unfoldable pub condition : ℕ → Reader Condition
  condition zero = do there 1; decline 4
  condition (suc nest) = do there 1; b ← due; condition_of (expression nest) (condition nest) (condition_byte b)

  -- "00 SKIP; 01 v, expression: assign; 02 c c: sequence; 03 b c c: IF, then, else; 04 b c: WHILE"
  unfoldable pub command_of : Reader Expression → Reader Condition → Reader Command → CommandByte → Reader Command
  command_of a b c skip = do pass 1; give SKIP
  command_of a b c assignment = do pass 1; v ← operand 63; x ← a; give (v := x)
  command_of a b c sequence = do pass 1; x ← c; y ← c; give (x ⨾ y)
  command_of a b c choice = do pass 1; t ← b; x ← c; y ← c; give (IF t THEN x ELSE y)
  command_of a b c loop = do pass 1; t ← b; x ← c; give (WHILE t DO x)
  command_of a b c no_command = decline 2

  unfoldable pub command : ℕ → Reader Command
  command zero = do there 1; decline 4
  command (suc nest) = do
    there 1
    b ← due
    command_of (expression nest) (condition nest) (command nest) (command_byte b)

-- ---- A whole text

-- 5: "bytes left over"
unfoldable pub all_read : List ℕ → Outcome ℕ Refusal Command → Answer Command
all_read text (ok c i) = unless leb (length text) i refuse 5 at i else gives c
all_read text (ended (refusal number place)) = refused number place

-- "A text is one command of at most 4,096 bytes. The root has nesting 1 and each part one more than its parent;
-- 64 is the most." Order: 6, then reading
unfoldable pub read_text : List ℕ → Answer Command
read_text text = unless leb (length text) 4096 refuse 6 at 0 else all_read text (command text 64 0)
