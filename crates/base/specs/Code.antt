-- What the code's answers say: document 01's number and place, or what the call gives.
use Rattle.std.specs.Prelude.{ℕ, List, ℤ, Result, Ok, Err}
use Rattle.base.specs.Answers.{Answer, gives, refused}
use Rattle.base.specs.Ends as Ends
use Rattle.base.specs.Ends.{Ran, ran}
use Rattle.base.specs.declared.End.{End}
use Rattle.base.specs.declared.End.TheVariants.{Done, Spent, Short, Full, Astray}
use Rattle.base.specs.declared.Reason.{Reason}
use Rattle.base.specs.declared.Reason.TheVariants.{CutOff, NoConstruct, NoOperand, TooDeep, LeftOver, TooLong}
use Rattle.base.specs.declared.Reason.TheVariants.{ShortOutput, WrongLength, NotWhole, NoRecord, WrongMemory}
use Rattle.base.specs.declared.Reason.TheVariants.{NoTable, NoHeights, NoPair, WrongState}
use Rattle.base.specs.declared.Refusal.{Refusal}
use Rattle.base.specs.declared.Ended.{Ended}
use Rattle.base.specs.declared.Preview.{Preview}

-- An end. The code has no name for out of range, which no call gives (document 02, W8)
abbrev pub end_of : End → Ends.End
end_of Done = Ends.done
end_of Spent = Ends.spent
end_of Short = Ends.fault Ends.short
end_of Full = Ends.fault Ends.full
end_of Astray = Ends.fault Ends.astray

-- A reason's number
abbrev pub number_of : Reason → ℕ
number_of CutOff = 1
number_of NoConstruct = 2
number_of NoOperand = 3
number_of TooDeep = 4
number_of LeftOver = 5
number_of TooLong = 6
number_of ShortOutput = 7
number_of WrongLength = 8
number_of NotWhole = 9
number_of NoRecord = 10
number_of WrongMemory = 11
number_of NoTable = 12
number_of NoHeights = 13
number_of NoPair = 14
number_of WrongState = 15

abbrev pub refusal_at : Reason → ℕ → Refusal
refusal_at reason place = record { reason = reason; place = place }

-- A refusal's number and place, or what is told of what the call gives
abbrev pub answer : {A B : Type 0} → (A → B) → Result A Refusal → Answer B
answer tells (Ok a) = gives (tells a)
answer tells (Err r) = refused (number_of r.reason) r.place

abbrev pub ended : End → ℕ → ℕ → Ended
ended end count mark = record { end = end; count = count; mark = mark }

-- A run: its end, its count and its mark
abbrev pub told_run : Ended → Ran
told_run e = ran (end_of e.end) e.count e.mark

abbrev pub run_answer : Result Ended Refusal → Answer Ran
run_answer run = answer told_run run

-- A preview: its run, and its store
abbrev pub preview_answer : Preview → Answer Ran × List ℤ
preview_answer p = (run_answer p.run, p.store)

-- A count
abbrev pub count_answer : Result ℕ Refusal → Answer ℕ
count_answer count = answer (λ n. n) count
