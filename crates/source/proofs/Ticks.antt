-- No rule adds to the ticks left, however it ends: by induction on the part, act by act.
use Prim.Native.Nat.{ℕ, zero, suc, ◌≤◌}
use native.Mathlib.Omega.{arith}
use mathlib.Core.Bool.{Bool, true, false, not, beq}
use lib.IntN.{ℤ}
use Rattle.std.specs.Prelude.{if◌then◌else◌}
use Rattle.base.specs.Acts.{ok, ended, then', give}
use Rattle.word.specs.Sums.{Sum, fits, out, SumRule}
use Rattle.text.specs.Syntax.{Expression, Constant, Variable, Plus, Condition, Bc, Not, And, Less, Command, SKIP}
use Rattle.text.specs.Syntax.{◌:=◌, ◌⨾◌, IF◌THEN◌ELSE◌, WHILE◌DO◌}
use Rattle.source.specs.Rules.{State, Rule, Outcomes, charge, tick, raise, lower, cell, assign, in_range}
use Rattle.source.specs.Rules.{add, value, truth, loop, exec}

-- At most n ticks are left
unfoldable pub Low : {A : Type 0} → ℕ → Outcomes A → Type 0
Low n (ok a s) = s.left ≤ n
Low n (ended (e, s)) = s.left ≤ n

abbrev Lowers : {A : Type 0} → Rule A → Type 0
Lowers r = (n : ℕ) (s : State) → s.left ≤ n → Low n (r s)

low_then : {A B : Type 0} (f : A → Rule B) → ((a : A) → Lowers (f a)) → (n : ℕ) (o : Outcomes A) → Low n o
    → Low n (then' o f)
unfolding Low then'
low_then f h n (ok a s) p = h a n s p
low_then f h n (ended (e, s)) p = p

low_if : {A : Type 0} (b : Bool) (x y : Rule A) → Lowers x → Lowers y → Lowers (if b then x else y)
low_if true x y p q = p
low_if false x y p q = q

low_charge : (n left : ℕ) (s : State) → left ≤ n → s.left ≤ n → Low n (charge left s)
unfolding Low charge
low_charge n zero s h k = k
low_charge n (suc l) s h k = omega arith

low_tick : Lowers tick
unfolding tick
low_tick n s h = low_charge n s.left s h h

low_give : {A : Type 0} (a : A) → Lowers (give a)
unfolding Low give
low_give a n s h = h

-- a value more on the stack, or k fewer, and then r
low_raise : {A : Type 0} (r : Rule A) → Lowers r → Lowers (λ s. then' (raise s) (λ _. r))
unfolding raise then'
low_raise r h n s p = h n _ p

low_lower : {A : Type 0} (k : ℕ) (r : Rule A) → Lowers r → Lowers (λ s. then' (lower k s) (λ _. r))
unfolding lower then'
low_lower k r h n s p = h n _ p

low_cell : (v : ℕ) → Lowers (cell v)
unfolding Low cell
low_cell v n s h = h

low_assign : (v : ℕ) (z : ℤ) → Lowers (assign v z)
unfolding Low assign
low_assign v z n s h = h

low_in_range : (t : Sum) → Lowers (in_range t)
unfolding Low in_range
low_in_range (fits z) n s h = h
low_in_range out n s h = h

-- a tick and then more
low_after : {A : Type 0} (r : Rule A) → Lowers r → Lowers (λ s. then' (tick s) (λ _. r))
low_after r h n s p = low_then (λ _. r) (λ _. h) n (tick s) (low_tick n s p)

module _ (sum : SumRule) where
  low_add : (x y : ℤ) → Lowers (add sum x y)
  unfolding add
  low_add x y n s h = low_in_range (sum s.left x y) n s h

  low_value : (a : Expression) → Lowers (value sum a)
  unfolding value
  low_value (Constant w z) n s h = low_after _ (low_raise (give z) (low_give z)) n s h
  low_value (Variable v) n s h = low_after _ (low_raise (cell v) (low_cell v)) n s h
  low_value (Plus a b) n s h =
      low_then _
      (λ x n s h. low_then _ (λ y. low_after _ (low_lower 1 (add sum x y) (low_add x y))) n (value sum b s)
      (low_value b n s h))
      n (value sum a s) (low_value a n s h)

  pub low_truth : (b : Condition) (flag : Bool) → Lowers (truth sum b flag)
  unfolding truth
  low_truth (Bc v) flag n s h = low_if (beq v flag) _ _ (low_after (give v) (low_give v)) (low_give v) n s h
  low_truth (Not b) flag n s h =
      low_then _ (λ v. low_give (not v)) n (truth sum b (not flag) s) (low_truth b (not flag) n s h)
  low_truth (And b c) flag n s h =
      low_then _ (λ v. low_if v _ _ (low_truth c flag) (low_give false)) n
      (truth sum b false s) (low_truth b false n s h)
  low_truth (Less a b) flag n s h =
      low_then _
      (λ x n s h. low_then _ (λ y. low_after _ (low_lower 2 (give _) (low_give _))) n (value sum b s)
      (low_value b n s h))
      n (value sum a s) (low_value a n s h)

  low_loop : (passes : ℕ) (test : Rule Bool) (body : Rule (Unit {0})) → Lowers test → Lowers body
      → Lowers (loop sum passes test body)
  unfolding loop Low
  low_loop zero test body p q n s h = h
  low_loop (suc k) test body p q n s h =
      low_then _
      (λ t. low_if t _ _
      (λ n s h. low_then _ (λ _. low_after (loop sum k test body) (low_loop k test body p q)) n (body s) (q n s h))
      (low_give tt)) n (test s) (p n s h)

  pub low_exec : (c : Command) → Lowers (exec sum c)
  unfolding exec
  low_exec SKIP n s h = low_give tt n s h
  low_exec (v := a) n s h =
      low_then _ (λ z. low_after _ (low_lower 1 (assign v z) (low_assign v z))) n (value sum a s) (low_value a n s h)
  low_exec (c ⨾ d) n s h = low_then _ (λ _. low_exec d) n (exec sum c s) (low_exec c n s h)
  low_exec (IF b THEN c ELSE d) n s h =
      low_then _
      (λ t. low_if t _ _ (λ n s h. low_then _ (λ _. low_tick) n (exec sum c s) (low_exec c n s h)) (low_exec d))
      n (truth sum b false s) (low_truth b false n s h)
  low_exec (WHILE b DO c) n s h = low_loop (suc s.left) _ _ (low_truth b false) (low_exec c) n s h
