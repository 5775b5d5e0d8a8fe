-- The sizes of a text (Claims: Shallow, Short, Few): D is below the nesting, each record has a byte of its own,
-- and of k numbers at most k pass a test. All by induction on the tree, or on k.
use Prim.Native.Nat.{ℕ, zero, suc, ◌≤◌, ◌<◌}
use native.Mathlib.Omega.{arith}
use mathlib.Core.Bool.{Bool, true, false, not, beq}
use mathlib.Core.List.{◌++◌}
use lib.ListN.{length, length-append}
use Rattle.std.specs.Prelude.{if◌then◌else◌}
use Rattle.text.specs.Syntax.{four_bytes, one_byte}
use Rattle.text.specs.Syntax.{Expression, Constant, Variable, Plus, Condition, Bc, Not, And, Less, Command}
use Rattle.text.specs.Syntax.{SKIP, ◌:=◌, ◌⨾◌, IF◌THEN◌ELSE◌, WHILE◌DO◌}
use Rattle.text.specs.Encoding.{expression_bytes, condition_bytes, command_bytes}
use Rattle.text.specs.Encoding.{expression_nesting, condition_nesting, nesting}
use Rattle.text.specs.Sizes.{expression_records, condition_records, records, expression_depth}
use Rattle.text.specs.Sizes.{condition_depth, depth, names, how_many}
use Rattle.text.specs.Claims.{Shallow, Short, Few}

-- ---- D

expression_depth_nesting : (a : Expression) → expression_depth a ≤ expression_nesting a
unfolding expression_depth expression_nesting
expression_depth_nesting (Constant w z) = omega arith
expression_depth_nesting (Variable v) = omega arith
expression_depth_nesting (Plus a b) = omega (arith, expression_depth_nesting a, expression_depth_nesting b)

condition_depth_nesting : (b : Condition) → condition_depth b ≤ condition_nesting b
unfolding condition_depth condition_nesting
condition_depth_nesting (Bc v) = omega arith
condition_depth_nesting (Not b) = omega (arith, condition_depth_nesting b)
condition_depth_nesting (And b c) = omega (arith, condition_depth_nesting b, condition_depth_nesting c)
condition_depth_nesting (Less a b) = omega (arith, expression_depth_nesting a, expression_depth_nesting b)

-- D is below a command's nesting: an expression or a condition stands inside a command.
pub depth_nesting : (c : Command) → depth c < nesting c
unfolding depth nesting
depth_nesting SKIP = omega arith
depth_nesting (v := a) = omega (arith, expression_depth_nesting a)
depth_nesting (c ⨾ d) = omega (arith, depth_nesting c, depth_nesting d)
depth_nesting (IF b THEN c ELSE d) = omega (arith, condition_depth_nesting b, depth_nesting c, depth_nesting d)
depth_nesting (WHILE b DO c) = omega (arith, condition_depth_nesting b, depth_nesting c)

pub shallow : Shallow
shallow c h = omega (arith, depth_nesting c)

-- ---- Records

pub expression_short : (a : Expression) → expression_records a ≤ length (expression_bytes a)
unfolding expression_records expression_bytes
expression_short (Constant four_bytes z) = omega arith
expression_short (Constant one_byte z) = omega arith
expression_short (Variable v) = omega arith
expression_short (Plus a b) =
    omega (arith, length-append (expression_bytes a) (expression_bytes b), expression_short a, expression_short b)

-- Bc has at most one record.
at_most_one : (t : Bool) → (if t then 1 else 0) ≤ 1
at_most_one true = omega arith
at_most_one false = omega arith

pub condition_short : (b : Condition) (flag : Bool) → condition_records b flag ≤ length (condition_bytes b)
unfolding condition_records condition_bytes
condition_short (Bc v) flag = omega (arith, at_most_one (beq v flag))
condition_short (Not b) flag = omega (arith, condition_short b (not flag))
condition_short (And b c) flag =
    omega (
      arith,
      length-append (condition_bytes b) (condition_bytes c),
      condition_short b false,
      condition_short c flag,
    )
condition_short (Less a b) flag =
    omega (arith, length-append (expression_bytes a) (expression_bytes b), expression_short a, expression_short b)

pub short : Short
unfolding records command_bytes
short SKIP = omega arith
short (v := a) = omega (arith, expression_short a)
short (c ⨾ d) = omega (arith, length-append (command_bytes c) (command_bytes d), short c, short d)
short (IF b THEN c ELSE d) =
    omega (
      arith,
      length-append (condition_bytes b) (command_bytes c ++ command_bytes d),
      length-append (command_bytes c) (command_bytes d),
      condition_short b false,
      short c,
      short d,
    )
short (WHILE b DO c) =
    omega (arith, length-append (condition_bytes b) (command_bytes c), condition_short b false, short c)

-- ---- n

pub at_most_all : (test : ℕ → Bool) (k : ℕ) → how_many test k ≤ k
unfolding how_many
at_most_all test zero = omega arith
at_most_all test (suc k) = omega (arith, at_most_one (test k), at_most_all test k)

pub few : Few
few c = at_most_all (names c) 64
