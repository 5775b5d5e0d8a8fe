-- The published big-step rules (HOL-IMP Big-Step, which document 001 imports), on unbounded integers.
use Rattle.std.specs.Prelude.{◌≡◌, ℕ, Bool, true, false, not, ◌&&◌, ℤ, pos, ◌+ℤ◌, get_or, set}
use Rattle.std.specs.Int.Signed.{lt_z}
use Rattle.text.specs.Syntax.{Expression, Constant, Variable, Plus, Condition, Bc, Not, And, Less, Command, SKIP}
use Rattle.text.specs.Syntax.{◌:=◌, ◌⨾◌, IF◌THEN◌ELSE◌, WHILE◌DO◌}
use Rattle.source.specs.Rules.{Store}

-- The published aval and bval
unfoldable pub aval : Expression → Store → ℤ
aval (Constant w z) s = z
aval (Variable v) s = get_or s v (pos 0)
aval (Plus a b) s = aval a s +ℤ aval b s

unfoldable pub bval : Condition → Store → Bool
bval (Bc v) s = v
bval (Not b) s = not (bval b s)
bval (And b c) s = bval b s && bval c s
bval (Less a b) s = lt_z (aval a s) (aval b s)

-- `BigStep c s t`: the published (c, s) ⇒ t
pub data BigStep : Command → Store → Store → Type 0 where
  skip : {s : Store} → BigStep SKIP s s
  assigns : {v : ℕ} {a : Expression} {s : Store} → BigStep (v := a) s (set s v (aval a s))
  seq : {c d : Command} {s t u : Store} → BigStep c s t → BigStep d t u → BigStep (c ⨾ d) s u
  if_true : {b : Condition} {c d : Command} {s t : Store}
      → bval b s ≡ true → BigStep c s t → BigStep (IF b THEN c ELSE d) s t
  if_false : {b : Condition} {c d : Command} {s t : Store}
      → bval b s ≡ false → BigStep d s t → BigStep (IF b THEN c ELSE d) s t
  while_false : {b : Condition} {c : Command} {s : Store} → bval b s ≡ false → BigStep (WHILE b DO c) s s
  while_true : {b : Condition} {c : Command} {s t u : Store}
      → bval b s ≡ true → BigStep c s t → BigStep (WHILE b DO c) t u → BigStep (WHILE b DO c) s u
