-- How runs end (document 01, "Source rules and ticks" and "Executors"), and the mark (document 02, W2).
use Rattle.std.specs.Prelude.{ℕ, ◌-◌}

-- The ends that a record brings. Out of range comes by the stopping rule for sums alone (word/specs/Sums), which no
-- call names since W8
pub data Fault : Type 0 where
  short full out_of_range astray : Fault

-- The ends of a run
pub data End : Type 0 where
  done spent : End
  fault : Fault → End

-- A run's result: its end, the ticks left of the budget, its mark, "the most values that the stack held during the
-- run", and what it leaves
pub record Result (S : Type 0) : Type 0 where
  pub end : End
  pub left : ℕ
  pub mark : ℕ
  pub leaves : S

abbrev pub result : {S : Type 0} → End → ℕ → ℕ → S → Result S
result e n mark s = record { end = e; left = n; mark = mark; leaves = s }

-- What a call tells of a run: its end, its count and its mark
pub record Ran : Type 0 where
  pub end : End
  pub count : ℕ
  pub mark : ℕ

abbrev pub ran : End → ℕ → ℕ → Ran
ran e k mark = record { end = e; count = k; mark = mark }

-- The count is the budget less the ticks left
abbrev pub report : {S : Type 0} → ℕ → Result S → Ran
report budget r = ran r.end (budget - r.left) r.mark
