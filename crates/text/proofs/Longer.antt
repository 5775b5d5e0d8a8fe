-- What is read of a text is read of the text with more bytes behind it. The idea: the two readings go side by side
-- (`Longer`) until the shorter text's is refused; a byte that was read is inside it, so it is the same in both.
use mathlib.Core.Path.{◌≡◌, refl}
use Prim.Native.Nat.{ℕ, zero, suc, ◌+◌, ◌≤◌, ◌<◌}
use native.Mathlib.Omega.{arith}
use mathlib.Core.Bool.{Bool, true, false}
use mathlib.Core.List.{List, ◌++◌}
use lib.Dec.{leb}
use lib.ListN.{length, get_or, length-append, get_or-append}
use borrow.Author.Tests.{leb-true, le-leb}
use Rattle.std.specs.Prelude.{if◌then◌else◌}
use Rattle.base.specs.Acts.{Outcome, ok, ended, then', ◌>>◌, give}
use Rattle.base.specs.Answers.{Refusal, refusal}
use Rattle.word.specs.Numbers.{number_at}
use Rattle.text.specs.Syntax.{Width, four_bytes, one_byte}
use Rattle.text.specs.Syntax.{Expression, Condition, Command}
use Rattle.text.specs.Reading.{Reader, decline, there, due, pass, operand, number_due, number}
use Rattle.text.specs.Reading.{ExpressionByte, constant, variable, plus, no_expression, expression_byte}
use Rattle.text.specs.Reading.{expression_of, expression}
use Rattle.text.specs.Reading.{ConditionByte, truth, negation, conjunction, comparison, no_condition}
use Rattle.text.specs.Reading.{condition_byte, condition_of, condition}
use Rattle.text.specs.Reading.{CommandByte, skip, assignment, sequence, choice, loop, no_command, command_byte}
use Rattle.text.specs.Reading.{command_of, command}

-- Two readings give the same, or the first is refused
data Longer {A : Type 0} : Outcome ℕ Refusal A → Outcome ℕ Refusal A → Type 0 where
  goes : {a : A} {j : ℕ} → Longer (ok a j) (ok a j)
  ends : {r : Refusal} {o : Outcome ℕ Refusal A} → Longer (ended r) o

kept : {A : Type 0} {o p : Outcome ℕ Refusal A} {a : A} {j : ℕ} → Longer o p → o ≡ ok a j → p ≡ ok a j
kept goes e = e
kept ends e = let no : ◌≡◌ {A = ℕ} 0 1 = cc in absurd (omega arith)

itself : {A : Type 0} (o : Outcome ℕ Refusal A) → Longer o o
itself (ok a j) = goes
itself (ended r) = ends

-- Readers in a row do so where each does.
on : {A B : Type 0} {o p : Outcome ℕ Refusal A} {f g : A → Reader B} → Longer o p
    → ((a : A) (j : ℕ) → Longer (f a j) (g a j)) → Longer (then' o f) (then' p g)
unfolding then'
on goes h = h _ _
on ends h = ends

module _ (text more : List ℕ) where
  -- Readers that do so from any position
  abbrev Same : {A : Type 0} → Reader A → Reader A → Type 0
  Same r s = (i : ℕ) → Longer (r i) (s i)

  byte : (i : ℕ) → i < length text → get_or (text ++ more) i 0 ≡ get_or text i 0
  byte i h = get_or-append text more 0 i h

  -- Bytes that are there are there in the longer text.
  enough : {A : Type 0} (n i : ℕ) (f g : Reader A) → (i + n ≤ length text → Longer (f i) (g i))
      → Longer ((do there text n; f) i) ((do there (text ++ more) n; g) i)
  unfolding there then'
  enough n i f g h = by (leb (i + n) (length text)) refl
    where
      by : (t : Bool) → leb (i + n) (length text) ≡ t
          → Longer (then' {A = Unit {0}} (if t then ok tt i else ended (refusal 1 (length text))) (λ _. f))
          ((do there (text ++ more) n; g) i)
      by true t =
          let w = leb-true (i + n) (length text) t in
          rw (le-leb (i + n) (length (text ++ more)) (omega (arith, length-append text more))) (h w)
      by false t = ends

  -- ---- Operands

  operand_longer : (most : ℕ) → Same (operand text most) (operand (text ++ more) most)
  unfolding operand due pass give then' decline
  operand_longer most i = enough 1 i _ _ (λ w. rw (byte i (omega arith)) (itself _))

  number_longer : (w : Width) → Same (number text w) (number (text ++ more) w)
  unfolding number number_due number_at
  number_longer four_bytes i =
      enough 4 i _ _ (λ w.
      rw (
        byte i (omega arith),
        byte (i + 1) (omega arith),
        byte (i + 2) (omega arith),
        byte (i + 3) (omega arith),
      ) goes)
  number_longer one_byte i = enough 1 i _ _ (λ w. rw (byte i (omega arith)) goes)

  -- ---- Constructs, by induction on the nesting left

  expression_same : (nest : ℕ) → Same (expression text nest) (expression (text ++ more) nest)
  unfolding expression expression_of pass give due then' decline
  expression_same zero i = enough 1 i _ _ (λ w. ends)
  expression_same (suc nest) i =
      enough 1 i _ _ (λ w. rw (byte i (omega arith)) (by (expression_same nest) (expression_byte (get_or text i 0))))
    where
      by : Same (expression text nest) (expression (text ++ more) nest) → (k : ExpressionByte)
          → Longer (expression_of text (expression text nest) k i)
          (expression_of (text ++ more) (expression (text ++ more) nest) k i)
      by a (constant w) = on (number_longer w (i + 1)) (λ z j. goes)
      by a variable = on (operand_longer 63 (i + 1)) (λ v j. goes)
      by a plus = on (a (i + 1)) (λ x j. on (a j) (λ y k. goes))
      by a no_expression = ends

  condition_same : (nest : ℕ) → Same (condition text nest) (condition (text ++ more) nest)
  unfolding condition condition_of pass give due then' decline
  condition_same zero i = enough 1 i _ _ (λ w. ends)
  condition_same (suc nest) i =
      enough 1 i _ _ (λ w. rw (byte i (omega arith)) (by (condition_same nest) (condition_byte (get_or text i 0))))
    where
      a : Same (expression text nest) (expression (text ++ more) nest)
      a = expression_same nest

      by : Same (condition text nest) (condition (text ++ more) nest) → (k : ConditionByte)
          → Longer (condition_of text (expression text nest) (condition text nest) k i)
          (condition_of (text ++ more) (expression (text ++ more) nest) (condition (text ++ more) nest) k i)
      by b truth = on (operand_longer 1 (i + 1)) (λ v j. goes)
      by b negation = on (b (i + 1)) (λ x j. goes)
      by b conjunction = on (b (i + 1)) (λ x j. on (b j) (λ y k. goes))
      by b comparison = on (a (i + 1)) (λ x j. on (a j) (λ y k. goes))
      by b no_condition = ends

  command_same : (nest : ℕ) → Same (command text nest) (command (text ++ more) nest)
  unfolding command command_of pass give due then' decline
  command_same zero i = enough 1 i _ _ (λ w. ends)
  command_same (suc nest) i =
      enough 1 i _ _ (λ w. rw (byte i (omega arith)) (by (command_same nest) (command_byte (get_or text i 0))))
    where
      a : Same (expression text nest) (expression (text ++ more) nest)
      a = expression_same nest

      b : Same (condition text nest) (condition (text ++ more) nest)
      b = condition_same nest

      by : Same (command text nest) (command (text ++ more) nest) → (k : CommandByte)
          → Longer (command_of text (expression text nest) (condition text nest) (command text nest) k i)
          (command_of (text ++ more) (expression (text ++ more) nest) (condition (text ++ more) nest)
          (command (text ++ more) nest) k i)
      by c skip = goes
      by c assignment = on (operand_longer 63 (i + 1)) (λ v j. on (a j) (λ x k. goes))
      by c sequence = on (c (i + 1)) (λ x j. on (c j) (λ y k. goes))
      by c choice = on (b (i + 1)) (λ t j. on (c j) (λ x k. on (c k) (λ y l. goes)))
      by c loop = on (b (i + 1)) (λ t j. on (c j) (λ x k. goes))
      by c no_command = ends

  -- ---- The laws

  pub expression_longer : (nest i : ℕ) {a : Expression} {j : ℕ} → expression text nest i ≡ ok a j
      → expression (text ++ more) nest i ≡ ok a j
  expression_longer nest i e = kept (expression_same nest i) e

  pub condition_longer : (nest i : ℕ) {b : Condition} {j : ℕ} → condition text nest i ≡ ok b j
      → condition (text ++ more) nest i ≡ ok b j
  condition_longer nest i e = kept (condition_same nest i) e

  pub command_longer : (nest i : ℕ) {c : Command} {j : ℕ} → command text nest i ≡ ok c j
      → command (text ++ more) nest i ≡ ok c j
  command_longer nest i e = kept (command_same nest i) e
