-- Source rules and ticks (document 01, "Source rules and ticks"), with the stack that they would need (document 02,
-- W2).
use Rattle.std.specs.Prelude.{ℕ, zero, suc, ◌-◌, max, Bool, false, not, List, ℤ, pos, get_or, set, if◌then◌else◌}
use Rattle.std.specs.Bool.{beq}
use Rattle.std.specs.Int.Signed.{lt_z}
use Rattle.base.specs.Acts.{Outcome, ok, ended, Act, ◌>>=◌, ◌>>◌, give}
use Rattle.base.specs.Ends.{End, Fault, fault, Result, result}
use Rattle.word.specs.Sums.{Sum, fits, out, SumRule}
use Rattle.text.specs.Syntax.{Expression, Constant, Variable, Plus, Condition, Bc, Not, And, Less, Command, SKIP}
use Rattle.text.specs.Syntax.{◌:=◌, ◌⨾◌, IF◌THEN◌ELSE◌, WHILE◌DO◌}

-- The ends of a run that is not done: "spent", and by the stopping rule for sums "out of range"
pub data Early : Type 0 where
  spent out_of_range : Early

-- "A store is 64 signed 32-bit cells"
abbrev pub Store : Type 0
Store = List ℤ

-- The state of a run: the ticks left of the budget; the height, how many values are on the stack, and the mark, the
-- most that were; the store
pub record State : Type 0 where
  pub left : ℕ
  pub height : ℕ
  pub mark : ℕ
  pub store : Store

abbrev pub state : ℕ → ℕ → ℕ → Store → State
state n h mark s = record { left = n; height = h; mark = mark; store = s }

-- A run starts with an empty stack
abbrev pub start : ℕ → Store → State
start budget s = state budget 0 0 s

-- What an end comes with: "each of these three ends comes with the count and the store as it then is", and the mark
pub record Ending : Type 0 where
  pub left : ℕ
  pub mark : ℕ
  pub store : Store

abbrev pub ending : ℕ → ℕ → Store → Ending
ending n mark s = record { left = n; mark = mark; store = s }

-- A rule gives a value, or ends the run
abbrev pub Rule : Type 0 → Type 0
Rule A = Act State (Early × Ending) A

abbrev pub Outcomes : Type 0 → Type 0
Outcomes A = Outcome State (Early × Ending) A

abbrev pub stop : {A : Type 0} → Early → Rule A
stop e s = ended (e, ending s.left s.mark s.store)

unfoldable pub charge : ℕ → Rule (Unit {0})
charge zero s = stop spent s
charge (suc n) s = ok tt (state n s.height s.mark s.store)

-- "Each tick is charged just before its act; if the count already equals the budget, the run ends spent there
-- and the act isn't done"
unfoldable pub tick : Rule (Unit {0})
tick s = charge s.left s

-- "A tick of a constant or variable adds one value"
unfoldable pub raise : Rule (Unit {0})
raise s = ok tt (state s.left (suc s.height) (max s.mark (suc s.height)) s.store)

-- "a sum or store takes one off, Less two"
unfoldable pub lower : ℕ → Rule (Unit {0})
lower k s = ok tt (state s.left (s.height - k) s.mark s.store)

-- A variable's value; a value stored
unfoldable pub cell : ℕ → Rule ℤ
cell v s = ok (get_or s.store v (pos 0)) s

unfoldable pub assign : ℕ → ℤ → Rule (Unit {0})
assign v z s = ok tt (state s.left s.height s.mark (set s.store v z))

-- "A sum [out of range] ends the run out of range, that tick counted": by the stopping rule alone
unfoldable pub in_range : Sum → Rule ℤ
in_range (fits z) s = ok z s
in_range out s = stop out_of_range s

-- The rule for sums is a parameter, and gets the ticks left after the sum's tick (word/specs/Sums says why)
module _ (sum : SumRule) where
  unfoldable pub add : ℤ → ℤ → Rule ℤ
  add x y s = in_range (sum s.left x y) s

  -- "Constant or variable: one tick. Plus: left, right, then one tick for the sum"
  unfoldable pub value : Expression → Rule ℤ
  value (Constant w z) = do tick; raise; give z
  value (Variable v) = do tick; raise; cell v
  value (Plus a b) = do x ← value a; y ← value b; tick; lower 1; add x y

  -- "A condition is taken under a flag. Bc: one tick if its value equals the flag, else none. Not: its part under the
  -- other flag. And: the left under false; only if it is true, the right under And's own flag. Less: left, right,
  -- one tick; true when left is smaller"
  unfoldable pub truth : Condition → Bool → Rule Bool
  truth (Bc v) flag = if beq v flag then (do tick; give v) else give v
  truth (Not b) flag = do v ← truth b (not flag); give (not v)
  truth (And b c) flag = do v ← truth b false; if v then truth c flag else give false
  truth (Less a b) flag = do x ← value a; y ← value b; tick; lower 2; give (lt_z x y)

  -- "WHILE: the condition; if true the body, one tick, and again": at most `passes` passes
  unfoldable pub loop : ℕ → Rule Bool → Rule (Unit {0}) → Rule (Unit {0})
  loop zero test body = stop spent
  loop (suc passes) test body = do t ← test; if t then (do body; tick; loop passes test body) else give tt

  -- "SKIP: none. Assign: the expression, then one tick to store. Sequence: one after the other. IF: the condition, the
  -- branch, then one tick if the branch was the first." The flag is "false for IF and WHILE". A pass of WHILE costs
  -- a tick at least, so one more pass than there are ticks left is enough (Claims: Again)
  unfoldable pub exec : Command → Rule (Unit {0})
  exec SKIP = give tt
  exec (v := a) = do z ← value a; tick; lower 1; assign v z
  exec (c ⨾ d) = do exec c; exec d
  exec (IF b THEN c ELSE d) = do t ← truth b false; if t then (do exec c; tick) else exec d
  exec (WHILE b DO c) = λ s. loop (suc s.left) (truth b false) (exec c) s

-- ---- A run

-- An end of the source rules as an end of a run: never short, full or astray
unfoldable pub end_of : Early → End
end_of spent = End.spent
end_of out_of_range = fault Fault.out_of_range

-- "Else the end is done"
unfoldable pub result_of : Outcomes (Unit {0}) → Result Store
result_of (ok a s) = result End.done s.left s.mark s.store
result_of (ended (e, s)) = result (end_of e) s.left s.mark s.store

-- A command run from a store under a budget
abbrev pub run_rules : SumRule → Command → ℕ → Store → Result Store
run_rules sum c budget s = result_of (exec sum c (start budget s))
