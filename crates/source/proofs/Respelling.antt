-- A constant's width changes no run (Claims: SameRuns): by induction on the tree, the rule of a command in full is the
-- command's rule. So it changes no answer of `run_source` and of its preview, which look at the command's rule alone.
use mathlib.Core.Path.{◌≡◌, refl, ap}
use Prim.Native.Nat.{ℕ, suc}
use mathlib.Core.Bool.{Bool, true, false, not}
use mathlib.Core.List.{List}
use lib.Dec.{eqb}
use lib.ListN.{length}
use lib.Signed.{lt_z}
use Rattle.std.specs.Prelude.{if◌then◌else◌}
use Rattle.base.specs.Acts.{◌>>=◌, ◌>>◌, give}
use Rattle.base.specs.Answers.{gives, unless◌refuse◌at◌else◌, and_then, settle, previewed}
use Rattle.base.specs.Ends.{report}
use Rattle.base.proofs.Settled.{unless_same}
use Rattle.word.specs.Sums.{SumRule}
use Rattle.text.specs.Syntax.{Expression, Constant, Variable, Plus, Condition, Bc, Not, And, Less, Command, SKIP}
use Rattle.text.specs.Syntax.{◌:=◌, ◌⨾◌, IF◌THEN◌ELSE◌, WHILE◌DO◌}
use Rattle.text.specs.Reading.{read_text}
use Rattle.text.specs.Respelling.{expression_in_full, condition_in_full, in_full, Respelled}
use Rattle.text.proofs.Respelling.{of_both}
use Rattle.source.specs.Rules.{Store, start, tick, lower, assign, add, value, truth, loop, exec, result_of}
use Rattle.source.specs.Rules.{run_rules}
use Rattle.source.specs.Calls.{sums, source_tests, run_source, preview_source}
use Rattle.source.specs.Claims.{SameRuns}

module _ (sum : SumRule) where
  value_in_full : (a : Expression) → value sum (expression_in_full a) ≡ value sum a
  unfolding expression_in_full value
  value_in_full (Constant w z) = refl
  value_in_full (Variable v) = refl
  value_in_full (Plus a b) = λ i. do x ← value_in_full a i; y ← value_in_full b i; tick; lower 1; add sum x y

  truth_in_full : (b : Condition) (flag : Bool) → truth sum (condition_in_full b) flag ≡ truth sum b flag
  unfolding condition_in_full truth
  truth_in_full (Bc v) flag = refl
  truth_in_full (Not b) flag = λ i. do v ← truth_in_full b (not flag) i; give (not v)
  truth_in_full (And b c) flag = λ i.
      do v ← truth_in_full b false i; if v then truth_in_full c flag i else give false
  truth_in_full (Less a b) flag = λ i. do x ← value_in_full a i; y ← value_in_full b i; tick; lower 2; give (lt_z x y)

  exec_in_full : (c : Command) → exec sum (in_full c) ≡ exec sum c
  unfolding in_full exec
  exec_in_full SKIP = refl
  exec_in_full (v := a) = λ i. do z ← value_in_full a i; tick; lower 1; assign v z
  exec_in_full (c ⨾ d) = λ i. do exec_in_full c i; exec_in_full d i
  exec_in_full (IF b THEN c ELSE d) = λ i.
      do t ← truth_in_full b false i; if t then (do exec_in_full c i; tick) else exec_in_full d i
  exec_in_full (WHILE b DO c) = λ i s. loop sum (suc s.left) (truth_in_full b false i) (exec_in_full c i) s

  pub same_runs : SameRuns sum
  same_runs = of_both (exec sum) exec_in_full

-- ---- The calls

module _ (text other : List ℕ) (c d : Command) (e : read_text text ≡ gives c) (f : read_text other ≡ gives d)
    (r : Respelled c d) where
  run : (store : Store) (budget : ℕ) → run_rules sums c budget store ≡ run_rules sums d budget store
  run store budget = ap (λ rule. result_of (rule (start budget store))) (same_runs sums c d r)

  pub run_same : (store : Store) (budget : ℕ) → run_source text store budget ≡ run_source other store budget
  unfolding run_source source_tests and_then settle
  run_same store budget =
      rw (e, f)
      (unless_same (eqb (length store) 64) 8 0 _ _ store (gives c) (gives d)
      (λ i. (gives (report budget (run store budget i)), (run store budget i).leaves)))

  pub preview_same : (store : Store) (budget : ℕ) → preview_source text store budget ≡ preview_source other store budget
  unfolding preview_source source_tests and_then
  preview_same store budget = rw (run_same store budget, e, f) (by (eqb (length store) 64))
    where
      by : (b : Bool) → previewed (unless b refuse 8 at 0 else gives c) (run_source other store budget)
          ≡ previewed (unless b refuse 8 at 0 else gives d) (run_source other store budget)
      by true = unfold previewed in refl
      by false = unfold previewed in refl
