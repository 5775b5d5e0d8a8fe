-- The variables that a command's records name are those that the command names, by going through the command.
use mathlib.Core.Path.{◌≡◌, refl, ◌∙◌, ap₂}
use Prim.Native.Nat.{ℕ}
use mathlib.Core.Bool.{Bool, true, false, not, ◌||◌, or-false, or_assoc, or_comm, beq}
use mathlib.Core.List.{[], ◌∷◌, ◌++◌}
use mathlib.Core.Option.{some}
use lib.Dec.{eqb}
use lib.IntN.{ℤ}
use Rattle.std.specs.Prelude.{if◌then◌else◌}
use Rattle.text.specs.Syntax.{Expression, Constant, Plus, Condition, Bc, Not, And, Less, Command, SKIP, ◌:=◌, ◌⨾◌}
use Rattle.text.specs.Syntax.{IF◌THEN◌ELSE◌, WHILE◌DO◌}
use Rattle.text.specs.Sizes.{expression_names, condition_names, names}
use Rattle.record.specs.Records.{AssemblyCode, STORE, JMP, JMPLESS, JMPGE, variable}
use Rattle.compile.specs.Compilation.{acomp, bcomp, ccomp}
use Rattle.compile.specs.Table.{member, once, mentions, vars}
use Rattle.compile.proofs.Entries.{member_once}

module _ (w : ℕ) where
  member_append : (P Q : AssemblyCode) → member w (vars (P ++ Q)) ≡ (member w (vars P) || member w (vars Q))
  unfolding mentions member
  member_append [] Q = refl
  member_append (r ∷ P) Q = simp (member_once, member_append P Q, or_assoc)

  names_one : (v : ℕ) → member w (once (λ v. v.0) (some (variable v)) []) ≡ eqb v w
  unfolding member
  names_one v = member_once (λ v. v.0) w (some (variable v)) [] ∙ or-false (eqb v w)

  names_expression : (a : Expression) → member w (vars (acomp a)) ≡ expression_names a w
  unfolding acomp expression_names mentions member once
  names_expression (Constant w z) = refl
  names_expression (Expression.Variable v) = names_one v
  names_expression (Plus a b) = simp (member_append, names_expression a, names_expression b, or-false)

  names_truth : (t : Bool) (i : ℤ) → member w (vars (if t then JMP i ∷ [] else [])) ≡ false
  unfolding mentions member once
  names_truth true i = refl
  names_truth false i = refl

  names_compare : (flag : Bool) (i : ℤ) → member w (vars ((if flag then JMPLESS i else JMPGE i) ∷ [])) ≡ false
  unfolding mentions member once
  names_compare true i = refl
  names_compare false i = refl

  names_condition : (b : Condition) (flag : Bool) (i : ℤ) → member w (vars (bcomp b flag i)) ≡ condition_names b w
  unfolding bcomp condition_names
  names_condition (Bc v) flag i = names_truth (beq v flag) i
  names_condition (Not b) flag i = names_condition b (not flag) i
  names_condition (And b c) flag i = simp (member_append, names_condition b false, names_condition c flag)
  names_condition (Less a b) flag i =
      simp (member_append, names_expression a, names_expression b, names_compare flag i, or-false)

  pub names_command : (c : Command) → member w (vars (ccomp c)) ≡ names c w
  unfolding ccomp names mentions member once
  names_command SKIP = refl
  names_command (v := a) =
      member_append (acomp a) (STORE (variable v) ∷ [])
      ∙ or_comm (member w (vars (acomp a))) (member w (vars (STORE (variable v) ∷ [])))
      ∙ ap₂ ◌||◌ (names_one v) (names_expression a)
  names_command (c ⨾ d) = simp (member_append, names_command c, names_command d)
  names_command (IF b THEN c ELSE d) =
      simp (member_append, names_condition b false, names_command c, names_command d)
  names_command (WHILE b DO c) = simp (member_append, names_condition b false, names_command c, or-false)
