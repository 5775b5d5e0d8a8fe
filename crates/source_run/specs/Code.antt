-- What the code's answers and buffers say of a run.
use Rattle.std.specs.Prelude.{◌≡◌, ℕ, ◌-◌, Option, Some, None, List, ◌++◌}
use Rattle.base.specs.Acts.{ok}
use Rattle.base.specs.Answers.{Answer, gives}
use Rattle.base.specs.Ends.{End, done, spent, Ran, ran, report}
use Rattle.text.specs.Syntax.{Command}
use Rattle.text.specs.Reading.{command, read_text}
use Rattle.source.specs.Rules.{Store, run_rules}
use Rattle.source.specs.Calls.{sums}

-- ---- What a text's command came to

abbrev pub run_end : Option ℕ → End
run_end (Some next) = done
run_end None = spent

-- The end, the count and the mark, from the budget, the ticks left and the mark
abbrev pub told : Option ℕ → ℕ → ℕ → ℕ → Ran
told after budget left mark = ran (run_end after) (budget - left) mark

-- What a run of a command tells, and the store that it leaves
abbrev pub runs : Command → ℕ → Store → Answer Ran × Store
runs c budget store = let r = run_rules sums c budget store in (gives (report budget r), r.leaves)

-- So it is of the command that stands at a text's start
abbrev pub Runs : List ℕ → ℕ → Store → Answer Ran × Store → Type 0
Runs text budget store x = (c : Command) (n : ℕ) → command text 64 0 ≡ ok c n → x ≡ runs c budget store

-- ---- A text in a buffer

-- It is accepted, and the buffer holds it, whatever stands behind it
pub record Laid (text buffer : List ℕ) : Type 0 where
  pub text_command : Command
  pub is : read_text text ≡ gives text_command
  pub behind : List ℕ
  pub holds : buffer ≡ text ++ behind
