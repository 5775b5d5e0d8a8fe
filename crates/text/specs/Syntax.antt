-- Profile text as trees: published IMP (document 01, "Profile text"), with each constant's width (document 02, W1).
use Rattle.std.specs.Prelude.{ℕ, Bool, ℤ}

infix 30 ◌:=◌
infixr 20 ◌⨾◌
infix 25 IF◌THEN◌ELSE◌
infix 25 WHILE◌DO◌
-- A constant's width: its operand is four bytes, or "one signed byte"
pub data Width : Type 0 where
  four_bytes one_byte : Width

-- as a number of bytes
abbrev pub bytes_in : Width → ℕ
bytes_in four_bytes = 4
bytes_in one_byte = 1

-- "Expressions: a constant; a variable; Plus"
pub data Expression : Type 0 where
  Constant : Width → ℤ → Expression
  Variable : ℕ → Expression
  Plus : Expression → Expression → Expression

-- "Conditions: Bc (false, true); Not; And; Less"
pub data Condition : Type 0 where
  Bc : Bool → Condition
  Not : Condition → Condition
  And : Condition → Condition → Condition
  Less : Expression → Expression → Condition

-- "SKIP; assign; sequence; IF, then, else; WHILE"
pub data Command : Type 0 where
  SKIP : Command
  ◌:=◌ : ℕ → Expression → Command
  ◌⨾◌ : Command → Command → Command
  IF◌THEN◌ELSE◌ : Condition → Command → Command → Command
  WHILE◌DO◌ : Condition → Command → Command
