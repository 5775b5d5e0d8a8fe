-- What reading tells of a text: its record count, its depth bound D and its n (document 01, "Records").
use Rattle.std.specs.Prelude.{ℕ, zero, suc, ◌+◌, max, Bool, false, not, ◌||◌, eqb, if◌then◌else◌}
use Rattle.std.specs.Bool.{beq}
use Rattle.text.specs.Syntax.{Expression, Constant, Variable, Plus, Condition, Bc, Not, And, Less, Command}
use Rattle.text.specs.Syntax.{SKIP, ◌:=◌, ◌⨾◌, IF◌THEN◌ELSE◌, WHILE◌DO◌}
use Rattle.text.specs.declared.Sizes.{Sizes}

-- ---- Record count: as many records as compilation gives, worked out from the text alone

unfoldable pub expression_records : Expression → ℕ
expression_records (Constant w z) = 1
expression_records (Variable v) = 1
expression_records (Plus a b) = expression_records a + expression_records b + 1

-- under a flag: Bc has a record only if its value equals the flag
unfoldable pub condition_records : Condition → Bool → ℕ
condition_records (Bc v) flag = if beq v flag then 1 else 0
condition_records (Not b) flag = condition_records b (not flag)
condition_records (And b c) flag = condition_records b false + condition_records c flag
condition_records (Less a b) flag = expression_records a + expression_records b + 1

unfoldable pub records : Command → ℕ
records SKIP = 0
records (v := a) = expression_records a + 1
records (c ⨾ d) = records c + records d
records (IF b THEN c ELSE d) = condition_records b false + (records c + records d) + 1
records (WHILE b DO c) = condition_records b false + records c + 1

-- ---- "Depth bound D: constant and variable 1; Plus and Less the larger of left and right + 1; SKIP and Bc 0;
-- else the largest of the parts"

unfoldable pub expression_depth : Expression → ℕ
expression_depth (Constant w z) = 1
expression_depth (Variable v) = 1
expression_depth (Plus a b) = max (expression_depth a) (suc (expression_depth b))

unfoldable pub condition_depth : Condition → ℕ
condition_depth (Bc v) = 0
condition_depth (Not b) = condition_depth b
condition_depth (And b c) = max (condition_depth b) (condition_depth c)
condition_depth (Less a b) = max (expression_depth a) (suc (expression_depth b))

unfoldable pub depth : Command → ℕ
depth SKIP = 0
depth (v := a) = expression_depth a
depth (c ⨾ d) = max (depth c) (depth d)
depth (IF b THEN c ELSE d) = max (condition_depth b) (max (depth c) (depth d))
depth (WHILE b DO c) = max (condition_depth b) (depth c)

-- ---- Named variables: does a text name w?

unfoldable pub expression_names : Expression → ℕ → Bool
expression_names (Constant width z) w = false
expression_names (Variable v) w = eqb v w
expression_names (Plus a b) w = expression_names a w || expression_names b w

unfoldable pub condition_names : Condition → ℕ → Bool
condition_names (Bc v) w = false
condition_names (Not b) w = condition_names b w
condition_names (And b c) w = condition_names b w || condition_names c w
condition_names (Less a b) w = expression_names a w || expression_names b w

unfoldable pub names : Command → ℕ → Bool
names SKIP w = false
names (v := a) w = eqb v w || expression_names a w
names (c ⨾ d) w = names c w || names d w
names (IF b THEN c ELSE d) w = condition_names b w || (names c w || names d w)
names (WHILE b DO c) w = condition_names b w || names c w

-- how many numbers below k pass a test
unfoldable pub how_many : (ℕ → Bool) → ℕ → ℕ
how_many test zero = 0
how_many test (suc k) = (if test k then 1 else 0) + how_many test k

-- "n is how many are named", of the 64 variables
abbrev pub cells : Command → ℕ
cells c = how_many (names c) 64

-- ---- The three numbers that reading gives

abbrev pub sized : ℕ → ℕ → ℕ → Sizes
sized k d n = record { records = k; depth = d; cells = n }

abbrev pub sizes : Command → Sizes
sizes c = sized (records c) (depth c) (cells c)
